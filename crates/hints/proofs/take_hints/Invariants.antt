use Rattle.std.proofs.Common.{◌≡◌, length, drop}
use Rattle.hints.specs.Bytes.{marks_of}
use Rattle.hints.specs.Hints.{by_hints}
use Rattle.hints.proofs.take_hints.Given as goal

abbrev pub invariant-loop-number : goal.invariant-loop-number
invariant-loop-number g l =
    let V = length l.initial.marks in
    let clauses = g.C.ClauseSource.clauses l.initial.source in
    (by_hints V clauses (marks_of l.marks) (drop l.number-index l.hints) ≡ by_hints V clauses (marks_of l.initial.marks) l.hints)
    × g.C.ClauseSource.steady l.initial.source l.source
