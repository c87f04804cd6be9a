use Rattle.std.proofs.Common.{arith}
use Rattle.slots.proofs.Costs.{slot_total, slot_literals}
use Rattle.slots.proofs.BySlotsRule.room.Goals as goal

pub returns-clause-enough : goal.returns-clause-enough
returns-clause-enough c = λ xs each within.
    let sum = slot_total xs each in let most = slot_literals xs each in (omega arith, omega arith)
