use Rattle.prooftext.proofs.Bodies.{body_broken, body_none}
use Rattle.prooftext.proofs.lines.read_clause.Goals as goal

pub returns-in_err-skip-clause-read : goal.returns-in_err-skip-clause-read
returns-in_err-skip-clause-read c =
    rw c.from_residual-in_err-skip.ensures
    (body_broken c.args.text.now c.args.rows.now.literals.now c.read_list.new.row c.in_ok-literals.literals c.in_ok-literals.rest.now c.in_ok-literals.ensures c.in_err-skip.ensures)

pub returns-in_err-hints-clause-read : goal.returns-in_err-hints-clause-read
returns-in_err-hints-clause-read c =
    rw c.from_residual-in_err-hints.ensures
    (body_none c.args.text.now c.args.rows.now.literals.now c.read_list.new.row c.in_ok-literals.literals c.in_ok-literals.rest.now c.in_ok-literals.ensures
    c.in_ok-skip.field-0.now c.in_ok-skip.ensures c.in_err-hints.ensures)
