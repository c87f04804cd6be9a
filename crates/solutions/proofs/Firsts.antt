-- The first number that passes a test.
use Rattle.std.proofs.Common.{ℕ, zero, suc, ◌<◌, ◌⊎◌, inl, inr, ⊎_elim, arith, below_more}

-- the first below n of which P holds, or Q holds of all of them
pub find_first : (P Q : ℕ → Type 0) → ((i : ℕ) → P i ⊎ Q i) → (n : ℕ) →
    ((i : ℕ) × (i < n) × P i × ((j : ℕ) → j < i → Q j)) ⊎ ((i : ℕ) → i < n → Q i)
find_first P Q dec zero = inr (λ i l. absurd (omega arith))
find_first P Q dec (suc n) =
    ⊎_elim (λ r. inl (r.0, omega (arith, r.1), r.2, r.3))
    (λ h. ⊎_elim (λ p. inl (n, omega arith, p, h)) (λ q. inr (λ i l. below_more Q n h q i (omega arith))) (dec n)) (find_first P Q dec n)
