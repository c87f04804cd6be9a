-- The ranks of a row of values: their total rises with the row.
use Rattle.std.specs.Prelude.{◌≡◌, ℕ, zero, suc, ◌*◌, ◌<◌, ◌≤◌, ◌≢◌, ◌⊎◌}
use Rattle.std.proofs.Math.Path.{ap}
use Rattle.std.proofs.Math.Logic.{inl, inr, ⊎_elim}
use native.Mathlib.Omega.{arith}
use borrow.Author.Count.{below_more}
use Rattle.std.proofs.lemmas.Bool.{cases_Bool}
use Rattle.std.proofs.lemmas.Bool.Decides.{not_from_Decides}
use Rattle.values.specs.Kinds.{Kind, Lawful}
use Rattle.values.specs.Sums.{sum}

-- the ranks of the first n values
abbrev pub total : {A : Type 0} → Kind A → ℕ → (ℕ → A) → ℕ
total K n f = sum n (λ w. K.rank (f w))

module _ {A : Type 0} (K : Kind A) (L : Lawful K) where
  pub total_le : (n : ℕ) (f : ℕ → A) → total K n f ≤ n * K.height
  unfolding sum
  total_le zero f = omega arith
  total_le (suc n) f = omega (arith, total_le n f, L.rank_bound (f n))

  pub equal_or_not : (a b : A) → (a ≡ b) ⊎ (a ≢ b)
  equal_or_not a b =
      ⊎_elim (λ e. inl ((L.compared a b).0 e)) (λ e. inr (not_from_Decides (K.same a b) (L.compared a b) e)) (cases_Bool (K.same a b))

  -- of two values in order, they are equal or the rank rises
  pub same_or_up : (a b : A) → K.below a b → (a ≡ b) ⊎ (K.rank a < K.rank b)
  same_or_up a b h = ⊎_elim (λ e. inl e) (λ d. inr (L.rank_rises a b h d)) (equal_or_not a b)

  pub total_mono : (n : ℕ) (f g : ℕ → A) → ((w : ℕ) → w < n → K.below (f w) (g w)) → total K n f ≤ total K n g
  unfolding sum
  total_mono zero f g h = omega arith
  total_mono (suc n) f g h =
      let k = total_mono n f g (λ w l. h w (omega arith)) in
      ⊎_elim (λ e. omega (arith, ap K.rank e)) (λ m. omega arith) (same_or_up (f n) (g n) (h n (omega arith)))

  -- of two rows in order, they are equal or the total rises
  pub rises : (n : ℕ) (f g : ℕ → A) → ((w : ℕ) → w < n → K.below (f w) (g w)) →
      ((w : ℕ) → w < n → f w ≡ g w) ⊎ (total K n f < total K n g)
  unfolding sum
  rises zero f g h = inl (λ w l. absurd (omega arith))
  rises (suc n) f g h =
      let below : (w : ℕ) → w < n → K.below (f w) (g w) = λ w l. h w (omega arith) in
      let least = total_mono n f g below in
      let last = same_or_up (f n) (g n) (h n (omega arith)) in
      ⊎_elim
      (λ e. ⊎_elim (λ k. inl (λ w l. below_more (λ w. f w ≡ g w) n e k w (omega arith))) (λ k. inr (omega arith)) last)
      (λ m. inr (⊎_elim (λ k. omega (arith, ap K.rank k)) (λ k. omega arith) last))
      (rises n f g below)
