use Rattle.std.proofs.Common.{◌≡◌, ℕ, ◌+◌, ◌-◌}
use Rattle.solutions.specs.Rounds.{most_rounds}
use Rattle.solutions.proofs.Counting.{Counting}
use Rattle.frames.specs.Given.{gates_of, given_of}
use Rattle.frames.proofs.frame.Given.settle.Given as goal

-- The round of the loop's test is counted before it is run.
abbrev pub invariant-loop-rounds : goal.invariant-loop-rounds
invariant-loop-rounds g l =
    let K = g.V.ValueKind.meaning in
    (k : ℕ) × (l.rounds ≡ k + 1) × Counting K (gates_of l.self) (given_of K l.self) k l.row

abbrev pub decreases-loop-rounds : goal.decreases-loop-rounds
decreases-loop-rounds g l = most_rounds g.V.ValueKind.meaning (gates_of l.self) + 1 - l.rounds
