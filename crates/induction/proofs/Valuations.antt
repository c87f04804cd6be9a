-- A valuation made from frames and marks.
use Rattle.std.proofs.Common.{◌≡◌, ℕ, ◌+◌, ◌-◌, ◌*◌, ◌/◌, ◌%◌, ◌<◌, Bool, cond, eqb, ltb, sym, ap, ◌∙◌, subst, ap₂, arith}
use Rattle.std.proofs.lemmas.Bool.{lt-ltb, le-ltb, eq-eqb, ne_eqb, cond-true, cond-false}
use Rattle.std.proofs.lemmas.Nat.{mul-add-lt, div-mul-add, mod-mul-add}
use Rattle.values.specs.Sides.{Rail, rail0, rail1}
use Rattle.values.specs.declared.single.Value.{Value}
use Rattle.clauses.specs.Clauses.{Valuation}
use Rattle.formulas.specs.Formulas.{rail_var}
use Rattle.formulas.proofs.Uses.{wire}
use Rattle.induction.specs.Readings.{Shows}
use Rattle.induction.proofs.Values.{rails}

rail_at : ℕ → Rail ℕ
rail_at k = cond (eqb (k % 2) 0) (rail0 (k / 2)) (rail1 (k / 2))

rail_at_0 : (w : ℕ) → rail_at (2 * w) ≡ rail0 w
unfolding rail_at
rail_at_0 w = cond-true (eqb (2 * w % 2) 0) (rail0 (2 * w / 2)) (rail1 (2 * w / 2)) (eq-eqb (2 * w % 2) 0 (omega arith)) ∙ ap rail0 (omega arith)

rail_at_1 : (w : ℕ) → rail_at (2 * w + 1) ≡ rail1 w
unfolding rail_at
rail_at_1 w =
    cond-false (eqb ((2 * w + 1) % 2) 0) (rail0 ((2 * w + 1) / 2)) (rail1 ((2 * w + 1) / 2)) (ne_eqb ((2 * w + 1) % 2) 0 (λ e. omega arith))
    ∙ ap rail1 (omega arith)

module _ (n frames : ℕ) (f : ℕ → ℕ → Value) (marks : ℕ → Bool) where
  -- the rails of so many frames, then the marks
  pub made : Valuation
  made x = cond (ltb x (2 * n * frames)) (rails (f (x / (2 * n))) (rail_at (x % (2 * n)))) (marks (x - 2 * n * frames))

  made_at : (i k : ℕ) → i < frames → k < 2 * n → made (2 * n * i + k) ≡ rails (f i) (rail_at k)
  unfolding made
  made_at i k l m =
      let e : 2 * n * i + k ≡ i * (2 * n) + k = omega arith in
      subst (λ x. made x ≡ rails (f i) (rail_at k)) (sym e)
      (cond-true (ltb (i * (2 * n) + k) (2 * n * frames)) _ _ (lt-ltb (i * (2 * n) + k) (2 * n * frames) (mul-add-lt i (2 * n) k frames l m))
      ∙ ap₂ (λ j t. rails (f j) (rail_at t)) (div-mul-add i (2 * n) k m) (mod-mul-add i (2 * n) k m))

  made_rail : (i : ℕ) → i < frames → (r : Rail ℕ) → wire r < n → made (rail_var n i r) ≡ rails (f i) r
  made_rail i l (rail0 w) m = made_at i (2 * w) l (omega arith) ∙ ap (rails (f i)) (rail_at_0 w)
  made_rail i l (rail1 w) m =
      let e : 2 * n * i + (2 * w + 1) ≡ 2 * n * i + 2 * w + 1 = omega arith in
      subst (λ x. made x ≡ rails (f i) (rail1 w)) e (made_at i (2 * w + 1) l (omega arith) ∙ ap (rails (f i)) (rail_at_1 w))

  pub made_shows : (i : ℕ) → i < frames → Shows made n i (f i)
  made_shows i l w m = (made_rail i l (rail0 w) m, made_rail i l (rail1 w) m)

  pub made_mark : (x z : ℕ) → x ≡ 2 * n * frames + z → made x ≡ marks z
  unfolding made
  made_mark x z e =
      cond-false (ltb x (2 * n * frames)) _ _ (le-ltb x (2 * n * frames) (omega arith)) ∙ ap marks (omega arith)
