-- The k-th of a list that is put together from blocks.
use Rattle.std.proofs.Common.{◌≡◌, ℕ, zero, suc, ◌+◌, ◌-◌, ◌*◌, ◌/◌, ◌%◌, ◌<◌, ◌≤◌, List, [], ◌∷◌, ◌++◌, length, sym, refl, ap, ◌∙◌, subst, ⊎_elim, mod-lt, div-lt_iff_lt-mul, arith, length-append}
use native.Mathlib.Nat.{div-add-mod}
use Rattle.std.proofs.lemmas.Bool.{cases_lt}
use Rattle.std.specs.List.{slice_get}
use Rattle.clauses.specs.Clauses.{across}

pub nth_left : {A : Type 0} (xs ys : List A) (k : ℕ) → k < length xs → slice_get (xs ++ ys) k ≡ slice_get xs k
nth_left [] ys k h = absurd (omega arith)
nth_left (x ∷ xs) ys zero h = refl
nth_left (x ∷ xs) ys (suc k) h = nth_left xs ys k (omega arith)

at_suc : {A : Type 0} (ys : List A) (k m : ℕ) → slice_get ys (k - m) ≡ slice_get ys (suc k - suc m)
at_suc ys k m = ap (slice_get ys) (omega arith)

pub nth_right : {A : Type 0} (xs ys : List A) (k : ℕ) → length xs ≤ k → slice_get (xs ++ ys) k ≡ slice_get ys (k - length xs)
nth_right [] ys k h = ap (slice_get ys) (omega arith)
nth_right (x ∷ xs) ys zero h = absurd (omega arith)
nth_right (x ∷ xs) ys (suc k) h = nth_right xs ys k (omega arith) ∙ at_suc ys k (length xs)

-- Blocks f w, where s w counts what stands before block w.
module _ {A : Type 0} (f : ℕ → List A) (s : ℕ → ℕ) (none : s 0 ≡ 0) (more : (w : ℕ) → s (suc w) ≡ s w + length (f w)) where
  pub length_blocks : (n : ℕ) → length (across n f) ≡ s n
  length_blocks zero = sym none
  length_blocks (suc n) = length-append (across n f) (f n) ∙ (let h = length_blocks n in omega (arith, more n))

  rises : (n w : ℕ) → w ≤ n → s w ≤ s n
  rises zero w h = let e : w ≡ 0 = omega arith in subst (λ x. s x ≤ s 0) (sym e) (omega arith)
  rises (suc n) w h =
      ⊎_elim
      (λ l. omega (arith, rises n w (omega arith), more n))
      (λ l. let e : w ≡ suc n = omega arith in subst (λ x. s x ≤ s (suc n)) (sym e) (omega arith))
      (cases_lt w (suc n))

  last_block : (n w k : ℕ) → w ≡ n → s w ≤ k → slice_get (across n f ++ f n) k ≡ slice_get (f w) (k - s w)
  last_block n w k e h =
      let long = length_blocks n in
      let same : s w ≡ s n = ap s e in
      nth_right (across n f) (f n) k (omega arith)
      ∙ (ap (λ x. slice_get (f n) (k - x)) long ∙ ap (λ x. slice_get (f x) (k - s x)) (sym e))

  pub nth_blocks : (n w k : ℕ) → w < n → s w ≤ k → k < s (suc w) → slice_get (across n f) k ≡ slice_get (f w) (k - s w)
  nth_blocks zero w k l a b = absurd (omega arith)
  nth_blocks (suc n) w k l a b =
      ⊎_elim
      (λ m. let up = rises n (suc w) (omega arith) in let long = length_blocks n in
      nth_left (across n f) (f n) k (omega arith) ∙ nth_blocks n w k m a b)
      (λ m. last_block n w k (omega arith) a)
      (cases_lt w n)

-- Blocks of one size.
module _ {A : Type 0} (f : ℕ → List A) (b : ℕ) (some : 0 < b) (same : (i : ℕ) → length (f i) ≡ b) where
  uniform_more : (w : ℕ) → suc w * b ≡ w * b + length (f w)
  uniform_more w = omega (arith, same w)

  pub length_uniform : (n : ℕ) → length (across n f) ≡ n * b
  length_uniform n = length_blocks f (λ i. i * b) (omega arith) uniform_more n

  pub block_below : (n j : ℕ) → j < n * b → j / b < n
  block_below n j h = (div-lt_iff_lt-mul {x = j} {y = n} some).1 h

  pub nth_uniform : (n j : ℕ) → j < n * b → slice_get (across n f) j ≡ slice_get (f (j / b)) (j % b)
  nth_uniform n j h =
      let whole = div-add-mod j b in
      let less = mod-lt j some in
      let rest : j - j / b * b ≡ j % b = omega (arith, whole) in
      nth_blocks f (λ i. i * b) (omega arith) uniform_more n (j / b) j (block_below n j h) (omega (arith, whole)) (omega (arith, whole, less)) ∙ ap (slice_get (f (j / b))) rest
