-- Pairs of frames are counted by their later one.
use Rattle.std.proofs.Common.{◌≡◌, ℕ, zero, suc, ◌+◌, ◌-◌, ◌*◌, ◌/◌, ◌<◌, ◌≤◌, sym, refl, ap, ◌∙◌, subst, ⊎_elim, arith}
use Rattle.std.proofs.Math.Nat.{add-mul-div_left}
use Rattle.std.proofs.lemmas.Bool.{cases_lt}
use Rattle.formulas.specs.Formulas.{pairs_before}

-- frame j is the later one of j pairs
pub pairs_more : (j : ℕ) → pairs_before (suc j) ≡ pairs_before j + j
pairs_more zero = refl
pairs_more (suc k) =
    let e : suc (suc k) - 1 ≡ suc k = omega arith in
    let g : suc k - 1 ≡ k = omega arith in
    let m : suc (suc k) * suc k ≡ suc k * k + 2 * suc k = omega arith in
    ap (λ x. suc (suc k) * x / 2) e ∙ ap (λ x. x / 2) m ∙ add-mul-div_left (suc k * k) (suc k) (omega arith) ∙ ap (λ x. suc k * x / 2 + suc k) (sym g)

pub pairs_up : (j d : ℕ) → j ≤ d → pairs_before j ≤ pairs_before d
pairs_up j zero l = let e : j ≡ 0 = omega arith in subst (λ k. pairs_before k ≤ pairs_before 0) (sym e) (omega arith)
pairs_up j (suc d) l =
    ⊎_elim (λ h. let k = pairs_up j d (omega arith) in omega (arith, pairs_more d))
    (λ h. let e : suc d ≡ j = omega arith in subst (λ k. pairs_before j ≤ pairs_before k) (sym e) (omega arith)) (cases_lt j (suc d))

pub pair_below : (i j d : ℕ) → i < j → j < d + 1 → pairs_before j + i < pairs_before (d + 1)
pair_below i j d l h =
    let a = pairs_more j in
    let b = pairs_up (suc j) (d + 1) (omega arith) in
    omega arith
