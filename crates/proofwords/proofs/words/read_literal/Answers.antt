use Rattle.std.proofs.Common.{arith}
use Rattle.proofwords.proofs.Digits.{lone_minus, minus_zero}
use Rattle.proofwords.proofs.words.read_literal.Goals as goal

pub returns-in_err-read_number : goal.returns-in_err-read_number
returns-in_err-read_number c =
    rw c.from_residual-in_err-read_number.ensures (lone_minus c.args.text.now c.in-Some.digits.now c.in-Some.ensures c.in_err-read_number.ensures)

pub returns-in-0-default : goal.returns-in-0-default
returns-in-0-default c = minus_zero c.args.text.now c.in-Some.digits.now c.in-Some.ensures _ _ (omega arith) c.in_ok-read_number.ensures
