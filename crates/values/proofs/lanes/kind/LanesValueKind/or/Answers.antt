use Rattle.std.proofs.Common.{rules}
use lib.Bits.{or_lt}
use Rattle.values.proofs.Rails.{rails_apart, rails_lanes, or_rails}
use Rattle.values.proofs.lanes.kind.LanesValueKind.or.Goals as goal

pub invariant_of-result-clause-words : goal.invariant_of-result-clause-words
invariant_of-result-clause-words c = (search rules, search (rules, or_lt))

pub invariant_of-result-clause-apart : goal.invariant_of-result-clause-apart
invariant_of-result-clause-apart c =
    let words = invariant_of-result-clause-words c in
    rails_apart _ _ _ words.0 words.1 (or_rails c.args.self c.args.other)

pub returns : goal.returns
returns c = rails_lanes _ _ (or_rails c.args.self c.args.other)
