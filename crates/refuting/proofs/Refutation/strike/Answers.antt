use Rattle.std.proofs.Common.{◌≡◌, false, arith}
use Rattle.shelf.specs.Premises.{of_formula}
use Rattle.refuting.specs.States.{terms_of, progress_of}
use Rattle.refuting.proofs.Judgements.{strikes}
use Rattle.refuting.proofs.Refutation.strike.Goals as goal

pub returns-clause-judged : goal.returns-clause-judged
returns-clause-judged g c =
    let r = c.args.self.now in
    let t = terms_of g.F.ClauseSource.clauses g.S.Shelf.capacity g.S.Shelf.cost r in
    let s = progress_of g.S.Shelf.lines r in
    let other : of_formula r.premises.count c.args.number ≡ false = grind arith in
    strikes t s c.args.number (g.S.Shelf.lines c.strike.new.self) c.strike.result other c.strike.ensures.lines
    (g.S.ClauseSource.clauses r.premises.shelf) (g.met.S.Shelf.shown r.premises.shelf) c.strike.ensures.answer
