use Rattle.prooftext.proofs.Bodies.{tail_broken}
use Rattle.prooftext.proofs.lines.read_tail.Goals as goal

pub returns-in_err-skip : goal.returns-in_err-skip
returns-in_err-skip c =
    rw c.from_residual-in_err-skip.ensures
    (tail_broken c.args.text.now c.args.row.now c.read_list.new.row c.in_ok-count.count c.in_ok-count.rest.now c.in_ok-count.ensures c.in_err-skip.ensures)
