use Rattle.std.proofs.Common.{◌≡◌, length}
use Rattle.std.specs.Option.{option_map}
use Rattle.hints.specs.Bytes.{marks_of}
use Rattle.hints.specs.Hints.{reading}
use Rattle.hints.specs.declared.Reading.TheVariants.{Conflict}
use Rattle.hints.proofs.Readings.{from}
use Rattle.hints.proofs.read_clause.Given as goal

abbrev pub invariant-loop-at : goal.invariant-loop-at
invariant-loop-at g l =
    let o = g.C.ClauseSource.clauses l.initial.source l.number in
    (from (length l.marks) (marks_of l.marks) l.reading l.at o ≡ option_map (reading (length l.marks) (marks_of l.marks) Conflict) o)
    × g.C.ClauseSource.steady l.initial.source l.source
