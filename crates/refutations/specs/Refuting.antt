-- Refuting lists: lines that follow by their hints, and strikes, down to the empty line.
use Rattle.std.specs.Prelude.{◌≡◌, ℕ, ◌<◌, ◌≤◌, true, List, [], ◌∷◌, length, ℤ, is_some, Some, None, Option, nat_eq}
use Rattle.std.specs.List.{AllByRecursion as AllOf}
use Rattle.std.specs.Map.{update}
use Rattle.clauses.specs.Clauses.{Clause, variable, numbered}
use Rattle.hints.specs.Hints.{Follows}

-- A line has a number, literals and hints. A strike takes an earlier line away, by its number.
pub data Item : Type 0 where
  line : ℕ → Clause → List ℕ → Item
  strike : ℕ → Item

abbrev pub Within : ℕ → ℤ → Type 0
Within V l = (0 < variable l) × (variable l ≤ V)

-- The line's number is above the last one, its literals are of the variables 1 to V, and it follows from the clauses.
abbrev pub Fits : ℕ → (ℕ → Option Clause) → ℕ → ℕ → Clause → List ℕ → Type 0
Fits V clauses last n ls hints = (last < n) × AllOf (Within V) ls × Follows V clauses ls hints

-- The items refute, where the clauses are the formula's, numbered 1 to C, and the lines not yet struck, and `last` is the
-- number of the last line, or C. The last item is the empty line, and no other is.
abbrev pub Refutes : ℕ → ℕ → (ℕ → Option Clause) → ℕ → List Item → Type 0
Refutes V C clauses last [] = ⊥
Refutes V C clauses last (strike n ∷ items) = (C < n) × (is_some (clauses n) ≡ true) × Refutes V C (update nat_eq clauses n None) last items
Refutes V C clauses last (line n [] hints ∷ []) = Fits V clauses last n [] hints
Refutes V C clauses last (line n [] hints ∷ (item ∷ items)) = ⊥
Refutes V C clauses last (line n (l ∷ ls) hints ∷ items) =
    Fits V clauses last n (l ∷ ls) hints × Refutes V C (update nat_eq clauses n (Some (l ∷ ls))) n items

-- The items refute a formula over the variables 1 to V.
abbrev pub Refuting : ℕ → List Clause → List Item → Type 0
Refuting V F items = Refutes V (length F) (numbered F) (length F) items
