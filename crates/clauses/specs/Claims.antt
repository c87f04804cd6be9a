-- What is proved of clauses.
use Rattle.std.specs.Prelude.{◌≡◌, ℕ, ◌<◌, List}
use Rattle.clauses.specs.Clauses.{Clause, Valuation, Satisfies, Over}

-- Of clauses over the variables 1 to V a valuation counts only on these.
abbrev pub VariablesDecide : Type 0
VariablesDecide =
    (V : ℕ) (cs : List Clause) → Over V cs → (v u : Valuation) → ((x : ℕ) → x < V → v x ≡ u x) → Satisfies v cs → Satisfies u cs
