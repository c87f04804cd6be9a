use Rattle.std.proofs.Common.{arith}
use Rattle.prooftext.proofs.Bodies.{front_zero, front_broken}
use Rattle.prooftext.proofs.lines.read_front.Goals as goal

pub returns-in_err-skip-in_default : goal.returns-in_err-skip-in_default
returns-in_err-skip-in_default c =
    rw c.from_residual-in_err-skip-in_default.ensures (front_broken c.args.text.now _ _ c.in_ok-read_number.ensures c.in_err-skip-in_default.ensures)

pub returns-in-0-default : goal.returns-in-0-default
returns-in-0-default c = front_zero c.args.text.now _ _ c.in_ok-read_number.ensures (omega arith)
