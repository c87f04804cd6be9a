-- The four clauses over two variables.
use Rattle.std.specs.Prelude.{ℕ, cond, [], ◌∷◌, pos, negsuc, Some, None, Option, ◌==◌}
use Rattle.clauses.specs.Clauses.{Clause}

abbrev pub square : ℕ → Option Clause
square n =
    cond (n == 1) (Some (pos 1 ∷ pos 2 ∷ []))
    (cond (n == 2) (Some (negsuc 0 ∷ pos 2 ∷ []))
    (cond (n == 3) (Some (pos 1 ∷ negsuc 1 ∷ []))
    (cond (n == 4) (Some (negsuc 0 ∷ negsuc 1 ∷ [])) None)))
