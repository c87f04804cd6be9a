-- What is proved of hints and refuting lists.
use Rattle.std.specs.Prelude.{◌≡◌, ℕ, true, ◌↔◌, List, Some, Option}
use Rattle.clauses.specs.Clauses.{Clause, Valuation, some_true, Satisfies, Over}
use Rattle.hints.specs.Hints.{Follows}
use Rattle.refutations.specs.Refuting.{Item, Refuting}

-- The valuation satisfies every clause of the map.
abbrev pub Models : Valuation → (ℕ → Option Clause) → Type 0
Models v clauses = (k : ℕ) (c : Clause) → clauses k ≡ Some c → some_true v c ≡ true

-- A line that follows is true wherever the clauses are.
abbrev pub Sound : Type 0
Sound =
    (V : ℕ) (clauses : ℕ → Option Clause) (line : Clause) (hints : List ℕ) → Follows V clauses line hints
    → (v : Valuation) → Models v clauses → some_true v line ≡ true

abbrev pub Unsatisfiable : List Clause → Type 0
Unsatisfiable F = (v : Valuation) → Satisfies v F → ⊥

-- No valuation satisfies a formula exactly when some list of lines refutes it.
abbrev pub RefutedIffListed : Type 0
RefutedIffListed = (V : ℕ) (F : List Clause) → Over V F → Unsatisfiable F ↔ ((items : List Item) × Refuting V F items)
