-- Lists of clauses in parts: all of them, and some literal.
use Rattle.std.proofs.Common.{◌≡◌, ℕ, zero, suc, ◌<◌, Bool, true, false, not, ◌||◌, ◌⊎◌, List, [], ◌∷◌, ◌++◌, sym, refl, ap, ◌∙◌, subst, ⊎_elim, arith, rules, below_more}
use mathlib.Core.Bool.{false≢true, or_assoc}
use Rattle.std.specs.List.{AllByRecursion as AllOf}
use Rattle.std.proofs.lemmas.Bool.{or_cases, or_left, or_right, cases_lt}
use Rattle.clauses.specs.Clauses.{Clause, Valuation, true_literal, some_true, across}

module _ {X : Type 0} (P : X → Type 0) where
  pub all_split : (xs ys : List X) → AllOf P (xs ++ ys) → AllOf P xs × AllOf P ys
  all_split [] ys h = (tt, h)
  all_split (x ∷ xs) ys h = let k = all_split xs ys h.1 in ((h.0, k.0), k.1)

  pub across_all : (n : ℕ) (f : ℕ → List X) → AllOf P (across n f) → (i : ℕ) → i < n → AllOf P (f i)
  across_all zero f h i l = absurd (omega arith)
  across_all (suc n) f h i l =
      let k = all_split (across n f) (f n) h in
      below_more (λ j. AllOf P (f j)) n (across_all n f k.0) k.1 i (omega arith)

module _ (v : Valuation) where
  -- this clause is true
  abbrev pub True : Clause → Type 0
  True c = some_true v c ≡ true

  pub some_append : (c e : Clause) → some_true v (c ++ e) ≡ (some_true v c || some_true v e)
  some_append [] e = refl
  some_append (l ∷ c) e = ap (λ b. true_literal v l || b) (some_append c e) ∙ sym (or_assoc (true_literal v l) (some_true v c) (some_true v e))

  pub some_left : (c e : Clause) → True c → True (c ++ e)
  some_left c e h = some_append c e ∙ or_left (some_true v c) (some_true v e) h

  pub some_right : (c e : Clause) → True e → True (c ++ e)
  some_right c e h = some_append c e ∙ or_right (some_true v c) (some_true v e) h

  pub some_split : (c e : Clause) → True (c ++ e) → True c ⊎ True e
  some_split c e h = or_cases (some_true v c) (some_true v e) (sym (some_append c e) ∙ h)

  pub some_across : (n : ℕ) (f : ℕ → Clause) (i : ℕ) → i < n → True (f i) → True (across n f)
  some_across zero f i l h = absurd (omega arith)
  some_across (suc n) f i l h =
      ⊎_elim (λ m. some_left (across n f) (f n) (some_across n f i m h))
      (λ m. let e : i ≡ n = omega arith in some_right (across n f) (f n) (subst (λ j. True (f j)) e h)) (cases_lt i n)

  pub across_some : (n : ℕ) (f : ℕ → Clause) → True (across n f) → (i : ℕ) × (i < n) × True (f i)
  across_some zero f h = absurd (false≢true h)
  across_some (suc n) f h =
      ⊎_elim (λ k. let r = across_some n f k in (r.0, omega (arith, r.1), r.2)) (λ k. (n, omega arith, k)) (some_split (across n f) (f n) h)

-- clauses of one and two literals
pub not_only : (a : Bool) → (not a || false) ≡ true → a ≡ false
not_only = search rules

pub other_down : (a b : Bool) → (not a || (not b || false)) ≡ true → a ≡ true → b ≡ false
other_down = search rules
