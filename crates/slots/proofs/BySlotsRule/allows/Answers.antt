use Rattle.std.proofs.Common.{arith}
use Rattle.shelf.specs.Lines.{total}
use Rattle.slots.specs.Rule.{slot_cost}
use Rattle.slots.proofs.Costs.{slot_total, slot_affords}
use Rattle.slots.proofs.BySlotsRule.allows.Goals as goal

pub returns-then-size-le-MOST_LITERALS : goal.returns-then-size-le-MOST_LITERALS
returns-then-size-le-MOST_LITERALS c = λ xs each lines _.
    let sum = slot_total xs each in slot_affords c.args.limit c.args.lines (total slot_cost xs) c.args.size (omega (arith, c.if-size-le-MOST_LITERALS.true)) (omega arith)
