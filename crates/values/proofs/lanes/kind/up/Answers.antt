use Rattle.std.proofs.Common.{sym, ◌∙◌, arith, rules}
use Rattle.std.proofs.lemmas.Bool.{le-ltb}
use Rattle.values.specs.Bits.{bit_above}
use Rattle.values.proofs.lanes.kind.up.Goals as goal

pub returns-else-at-lt64 : goal.returns-else-at-lt64
returns-else-at-lt64 c =
    le-ltb c.args.at 64 (omega arith) ∙ sym (bit_above 64 c.args.at c.args.word (search rules) (λ h. omega arith))
