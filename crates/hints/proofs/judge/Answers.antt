use Rattle.std.proofs.Common.{◌≡◌, true, length, replicate, Some, sym, ap, ◌∙◌, rules}
use Rattle.hints.specs.Bytes.{marks_of}
use Rattle.hints.specs.Hints.{falsified, all_fit, by_hints}
use Rattle.hints.proofs.Bytes.{screened_hints}
use Rattle.hints.proofs.judge.Goals as goal

pub returns-clause-answer : goal.returns-clause-answer
returns-clause-answer g c =
    let V = length c.args.marks.now in
    let clauses = g.C.ClauseSource.clauses c.args.source.now in
    let ls = c.args.literals.now in
    let m = marks_of c.falsify.new.marks in
    let fresh : c.fill.new.self ≡ replicate V 0 = search rules in
    let fit : all_fit V ls ≡ true = search rules in
    let size : length c.falsify.new.marks ≡ V = search rules in
    let false : falsified (marks_of c.fill.new.self) ls ≡ Some m = search rules in
    let told = screened_hints V c.fill.new.self clauses ls c.args.hints.now fresh fit m false in
    c.take_hints.ensures.answer ∙ (ap (λ n. by_hints n clauses m c.args.hints.now) size ∙ sym told)
