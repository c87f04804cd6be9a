use Rattle.std.proofs.Common.{rules}
use lib.Bits.{xor_lt}
use Rattle.values.proofs.Rails.{rails_apart, rails_lanes, new_rails}
use Rattle.values.proofs.lanes.Lanes.new.Goals as goal

pub invariant_of-result-clause-words : goal.invariant_of-result-clause-words
invariant_of-result-clause-words c = (search (rules, xor_lt), search (rules, xor_lt))

pub invariant_of-result-clause-apart : goal.invariant_of-result-clause-apart
invariant_of-result-clause-apart c =
    let words = invariant_of-result-clause-words c in
    rails_apart _ _ _ words.0 words.1 (new_rails c.args.zeros c.args.ones)

pub returns : goal.returns
returns c = rails_lanes _ _ (new_rails c.args.zeros c.args.ones)
