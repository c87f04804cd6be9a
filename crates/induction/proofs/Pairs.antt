-- The pairs i < j in order: the pair that stands at a place.
use Rattle.std.proofs.Common.{◌≡◌, ℕ, zero, suc, ◌+◌, ◌<◌, cond, ltb, refl, ap, ◌∙◌, arith}
use Rattle.std.proofs.lemmas.Bool.{lt-ltb, le-ltb, cond-true, cond-false}
use Rattle.formulas.specs.Formulas.{pairs_before}
use Rattle.formulas.proofs.Pairs.{pairs_more}

abbrev next : ℕ × ℕ → ℕ × ℕ
next r = cond (ltb (suc r.0) r.1) (suc r.0, r.1) (0, suc r.1)

pub unpair : ℕ → ℕ × ℕ
unpair zero = (0, 1)
unpair (suc q) = next (unpair q)

along : (j : ℕ) → unpair (pairs_before j + 0) ≡ (0, j) → (i : ℕ) → i < j → unpair (pairs_before j + i) ≡ (i, j)
unfolding unpair
along j h zero l = h
along j h (suc i) l =
    let e : pairs_before j + suc i ≡ suc (pairs_before j + i) = omega arith in
    ap unpair e ∙ ap next (along j h i (omega arith)) ∙ cond-true (ltb (suc i) j) (suc i, j) (0, suc j) (lt-ltb (suc i) j l)

start : (j : ℕ) → unpair (pairs_before (suc j) + 0) ≡ (0, suc j)
unfolding unpair
start zero = refl
start (suc k) =
    let e : pairs_before (suc (suc k)) + 0 ≡ suc (pairs_before (suc k) + k) = omega (arith, pairs_more (suc k)) in
    ap unpair e ∙ ap next (along (suc k) (start k) k (omega arith))
    ∙ cond-false (ltb (suc k) (suc k)) (suc k, suc k) (0, suc (suc k)) (le-ltb (suc k) (suc k) (omega arith))

pub unpair_at : (i j : ℕ) → i < j → unpair (pairs_before j + i) ≡ (i, j)
unpair_at i zero l = absurd (omega arith)
unpair_at i (suc j) l = along (suc j) (start j) i l
