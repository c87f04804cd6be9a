use Rattle.std.proofs.Common.{◌≡◌, true, length, drop}
use Rattle.hints.specs.Bytes.{marks_of}
use Rattle.hints.specs.Hints.{falsified, all_fit}
use Rattle.hints.proofs.falsify.Given as goal

abbrev pub invariant-loop-literal : goal.invariant-loop-literal
invariant-loop-literal l =
    (falsified (marks_of l.marks) (drop l.literal-index l.literals) ≡ falsified (marks_of l.initial.marks) l.literals)
    × (all_fit (length l.marks) (drop l.literal-index l.literals) ≡ true)
