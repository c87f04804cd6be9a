-- The clauses that a hint can name.
use Rattle.std.specs.Prelude.{ℕ, Bool, cond, ◌&&◌, Option, nat_le, nat_lt}
use Rattle.clauses.specs.Clauses.{Clause}

-- The number is one of 1 to count.
abbrev pub of_formula : ℕ → ℕ → Bool
of_formula count k = nat_lt 0 k && nat_le k count

-- Numbers 1 to count are the formula's, all others the shelf's.
abbrev pub premises : ℕ → (ℕ → Option Clause) → (ℕ → Option Clause) → ℕ → Option Clause
premises count formula shelf k = cond (of_formula count k) (formula k) (shelf k)
