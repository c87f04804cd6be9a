use Rattle.std.proofs.Common.{◌≡◌, length, Some, arith, rules}
use Rattle.std.specs.Option.{option_map}
use Rattle.clauses.specs.Clauses.{length_of, clause_literal}
use Rattle.hints.specs.Bytes.{marks_of}
use Rattle.hints.specs.Hints.{joined}
use Rattle.hints.specs.declared.Reading.TheVariants.{Slack}
use Rattle.hints.proofs.Readings.{from_more, from_stop}
use Rattle.hints.proofs.read_clause.Goals as goal

pub loop-at-preserved : goal.loop-at-preserved
loop-at-preserved g c =
    let law = g.met.C.ClauseSource in
    let still = law.same _ _ c.loop-at.invariant.1 in
    let said = c.in_ok-reading.ensures.answer in
    (grind (arith, from_more), law.goes_on _ _ _ c.loop-at.invariant.1 c.read_literal.ensures.steady)

pub returns-then-eq-clause-answer : goal.returns-then-eq-clause-answer
returns-then-eq-clause-answer g c =
    let law = g.met.C.ClauseSource in
    let kept = law.same _ _ c.length.ensures.steady in
    let still = law.same _ _ c.loop-at.invariant.1 in
    let long = c.in_ok-length.ensures.answer in
    let said = c.in_ok-reading.ensures.answer in
    let V = length c.args.marks.now in
    let m = marks_of c.args.marks.now in
    let o = g.C.ClauseSource.clauses c.loop-at.source c.args.number in
    let there : Some c.in_ok-length.length ≡ length_of o = cc in
    let slack : c.in_ok-reading.reading ≡ Slack = search rules in
    let told : Some Slack ≡ option_map (joined V m c.loop-at.reading) (clause_literal o c.loop-at.at) = cc in
    let stop = from_stop V m o c.loop-at.at c.in_ok-length.length c.loop-at.reading there told in
    cc
