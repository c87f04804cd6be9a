-- A formula with a refuting list is unsatisfiable: a valuation that satisfied it would satisfy each line, and so the empty one.
use Rattle.std.proofs.Common.{◌≡◌, ℕ, zero, suc, Bool, true, false, cond, eqb, List, [], ◌∷◌, length, Some, None, Option, refl, subst}
use Rattle.std.specs.Map.{update}
use Rattle.std.specs.List.{slice_get}
use Rattle.std.proofs.lemmas.Bool.{both_ways}
use Rattle.clauses.specs.Clauses.{Clause, Valuation, some_true, Satisfies, numbered}
use Rattle.refutations.specs.Claims.{Models, Unsatisfiable}
use Rattle.refutations.specs.Refuting.{Item, line, strike, Refutes, Refuting}
use Rattle.refutations.proofs.Soundness.{sound}

module _ (v : Valuation) (clauses : ℕ → Option Clause) (models : Models v clauses) (n : ℕ) where
  pub models_line : (c : Clause) → some_true v c ≡ true → Models v (update eqb clauses n (Some c))
  models_line c s k d e = go (eqb n k) e
    where
      go : (t : Bool) → cond t (Some c) (clauses k) ≡ Some d → some_true v d ≡ true
      go true e' = let h : c ≡ d = cc in subst (λ x. some_true v x ≡ true) h s
      go false e' = models k d e'

  pub models_strike : Models v (update eqb clauses n None)
  models_strike k d e = go (eqb n k) e
    where
      go : (t : Bool) → cond t None (clauses k) ≡ Some d → some_true v d ≡ true
      go true e' = cc
      go false e' = models k d e'

-- No valuation makes the empty line true.
pub empty_false : (v : Valuation) → some_true v [] ≡ true → ⊥
empty_false v e = both_ways false refl e

refutes : (V C : ℕ) (v : Valuation) (items : List Item) (clauses : ℕ → Option Clause) (last : ℕ) → Models v clauses
    → Refutes V C clauses last items → ⊥
refutes V C v [] clauses last models r = r
refutes V C v (strike n ∷ items) clauses last models r =
    refutes V C v items (update eqb clauses n None) last (models_strike v clauses models n) r.2
refutes V C v (line n [] hints ∷ []) clauses last models r = empty_false v (sound V clauses [] hints r.2 v models)
refutes V C v (line n [] hints ∷ (item ∷ items)) clauses last models r = r
refutes V C v (line n (l ∷ ls) hints ∷ items) clauses last models r =
    let holds = sound V clauses (l ∷ ls) hints r.0.2 v models in
    refutes V C v items (update eqb clauses n (Some (l ∷ ls))) n (models_line v clauses models n (l ∷ ls) holds) r.1

nth_holds : (v : Valuation) (F : List Clause) → Satisfies v F → (i : ℕ) (c : Clause) → slice_get F i ≡ Some c → some_true v c ≡ true
nth_holds v [] all i c e = cc
nth_holds v (d ∷ F) all zero c e = let h : d ≡ c = cc in subst (λ x. some_true v x ≡ true) h all.0
nth_holds v (d ∷ F) all (suc i) c e = nth_holds v F all.1 i c e

pub formula_models : (v : Valuation) (F : List Clause) → Satisfies v F → Models v (numbered F)
formula_models v F all zero c e = cc
formula_models v F all (suc i) c e = nth_holds v F all i c e

pub listed_refuted : (V : ℕ) (F : List Clause) → ((items : List Item) × Refuting V F items) → Unsatisfiable F
listed_refuted V F (items, r) v all = refutes V (length F) v items (numbered F) (length F) (formula_models v F all) r
