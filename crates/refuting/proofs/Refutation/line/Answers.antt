use Rattle.std.proofs.Common.{length, sym, ap, ◌∙◌, arith}
use Rattle.std.proofs.lemmas.Result.{err_from_is_err_and}
use Rattle.std.proofs.lemmas.Bool.Decides.{nat_tests}
use Rattle.shelf.specs.Premises.{premises}
use Rattle.refuting.specs.Judging.{known}
use Rattle.refuting.specs.States.{terms_of}
use Rattle.refuting.proofs.Judgements.{taken_holds}
use Rattle.refuting.proofs.Refutation.line.Goals as goal

pub returns-in_err-check_line-clause-judged : goal.returns-in_err-check_line-clause-judged
returns-in_err-check_line-clause-judged g c =
    let r = c.args.self.now in
    let shown = g.met.S.Shelf.shown r.premises.shelf in
    let kept = g.met.S.Shelf.lines_stay _ _ c.check_line.ensures.steady.2 in
    let p = err_from_is_err_and c.from_residual-in_err-check_line.result c.from_residual-in_err-check_line.ensures.1 in
    grind (arith, nat_tests)

pub returns-clause-holds : goal.returns-clause-holds
returns-clause-holds g c =
    let r = c.args.self.now in
    let formula = g.F.ClauseSource.clauses r.premises.formula in
    let source = premises r.premises.count formula (g.S.ClauseSource.clauses r.premises.shelf) in
    let clauses = known (terms_of g.F.ClauseSource.clauses g.S.Shelf.capacity g.S.Shelf.cost r) (g.S.Shelf.lines r.premises.shelf) in
    taken_holds r.variables (length c.args.marks.now) source clauses c.args.literals.now c.args.hints.now _
    (ap (premises r.premises.count formula) (g.met.S.Shelf.shown r.premises.shelf))
    (sym c.in_ok-check_line.was ∙ c.check_line.ensures.answer)
