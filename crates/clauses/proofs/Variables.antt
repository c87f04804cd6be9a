-- Valuations that agree on the variables.
use Rattle.std.proofs.Common.{◌≡◌, ℕ, zero, suc, ◌<◌, ◌≤◌, not, ◌||◌, [], ◌∷◌, ℤ, pos, negsuc, sym, refl, ap, ◌∙◌, ap₂}
use Rattle.std.specs.List.{AllByRecursion as AllOf}
use Rattle.clauses.specs.Clauses.{Clause, Valuation, true_literal, some_true, variable}
use Rattle.clauses.specs.Claims.{VariablesDecide}

-- the variable of a literal is one of 1 to V
abbrev pub Within : ℕ → ℤ → Type 0
Within V l = (0 < variable l) × (variable l ≤ V)

module _ (V : ℕ) (v u : Valuation) (same : (x : ℕ) → x < V → v x ≡ u x) where
  literal_same : (l : ℤ) → Within V l → true_literal v l ≡ true_literal u l
  literal_same (pos zero) f = refl
  literal_same (pos (suc x)) f = same x f.1
  literal_same (negsuc x) f = ap not (same x f.1)

  clause_same : (c : Clause) → AllOf (Within V) c → some_true v c ≡ some_true u c
  clause_same [] f = refl
  clause_same (l ∷ c) f = ap₂ ◌||◌ (literal_same l f.0) (clause_same c f.1)

pub variables_decide : VariablesDecide
variables_decide V [] o v u h s = tt
variables_decide V (c ∷ cs) o v u h s = (sym (clause_same V v u h c o.0) ∙ s.0, variables_decide V cs o.1 v u h s.1)
