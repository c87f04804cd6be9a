use Rattle.std.proofs.Common.{◌≡◌, ℕ, ◌<◌, get_or}
use Rattle.frames.proofs.frame.clear.Given as goal

abbrev pub invariant-loop-value : goal.invariant-loop-value
invariant-loop-value g l = let none = g.V.ValueKind.meaning.undefined in (k : ℕ) → k < l.value-index → get_or l.row k none ≡ none
