-- Marks as lent bytes, that of variable x + 1 at place x: 0 unset, 1 true, 2 false.
use Rattle.std.specs.Prelude.{ℕ, zero, suc, Bool, true, false, cond, not, List, ◌++◌, length, drop, replicate, ℤ, pos, negsuc, Some, None, Option, nat_le, slice_index}
use Rattle.hints.specs.Hints.{Marks}

abbrev pub mark_of : ℕ → Option Bool
mark_of zero = None
mark_of (suc zero) = Some true
mark_of (suc (suc zero)) = Some false
mark_of (suc (suc (suc n))) = None

abbrev pub marks_of : List ℕ → Marks
marks_of bytes x = mark_of (slice_index bytes x)

-- the value of a literal's variable under which the literal has a value
abbrev pub signed : ℤ → Bool → Bool
signed (pos x) b = b
signed (negsuc x) b = not b

-- The first V bytes are 0, where there are as many; fewer are left as they are.
abbrev pub cleared : ℕ → List ℕ → List ℕ
cleared V bytes = cond (nat_le V (length bytes)) (replicate V 0 ++ drop V bytes) bytes
