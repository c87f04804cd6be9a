use Rattle.std.proofs.Common.{rules}
use Rattle.values.proofs.Rails.{rails_apart, rails_lanes, not_rails}
use Rattle.values.proofs.lanes.kind.LanesValueKind.not.Goals as goal

pub invariant_of-result-clause-words : goal.invariant_of-result-clause-words
invariant_of-result-clause-words c = (search rules, search rules)

pub invariant_of-result-clause-apart : goal.invariant_of-result-clause-apart
invariant_of-result-clause-apart c =
    let words = invariant_of-result-clause-words c in
    rails_apart _ _ _ words.0 words.1 (not_rails c.args.self)

pub returns : goal.returns
returns c = rails_lanes _ _ (not_rails c.args.self)
