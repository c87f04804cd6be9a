-- The later frame of a pair, found among the frames one after the other.
use Rattle.std.proofs.Common.{◌≡◌, ℕ, zero, suc, ◌+◌, ◌<◌, ◌≤◌, length, Some, None, Option, sym, ap, ◌∙◌, subst, add-one, arith}
use Rattle.std.specs.List.{range_with_len, AllWithin, HoldsAt}
use Rattle.std.specs.Option.{MatchOption}
use Rattle.std.proofs.lemmas.List.FromFn.{get_or-range_with_len, length-range_with_len}
use Rattle.formulas.specs.Formulas.{pairs_before}
use Rattle.formulas.proofs.Pairs.{pairs_more}
use Rattle.sources.specs.Places.{LateAt}

next : (late : ℕ) → pairs_before (late + 1) ≡ pairs_before late + late
next late = ap pairs_before (add-one late) ∙ pairs_more late

module _ (d q : ℕ) (some : 1 ≤ d) where
  passed : (i : ℕ) → i < d → AllWithin (λ j. pairs_before (j + 1) ≤ q) (range_with_len 1 d) 0 (suc i) → pairs_before (1 + i + 1) ≤ q
  passed i l h = subst (λ x. pairs_before (x + 1) ≤ q) (get_or-range_with_len 1 d i 0 l) (h i 0 (omega arith) (omega arith))

  before_first : (i : ℕ) → i < d → AllWithin (λ j. pairs_before (j + 1) ≤ q) (range_with_len 1 d) 0 i → pairs_before (1 + i) ≤ q
  before_first zero l h = omega arith
  before_first (suc i) l h =
      let e : 1 + i + 1 ≡ 1 + suc i = omega arith in
      subst (λ x. x ≤ q) (ap pairs_before e) (passed i (omega arith) h)

  none_left : (n : ℕ) → d ≡ n → AllWithin (λ j. pairs_before (j + 1) ≤ q) (range_with_len 1 d) 0 n → pairs_before (d + 1) ≤ q
  none_left zero e h = absurd (omega arith)
  none_left (suc n) e h =
      let m : 1 + n ≡ d = omega arith in
      subst (λ x. x ≤ q) (ap (λ x. pairs_before (x + 1)) m) (passed n (omega arith) h)

  pub late_found : (r : Option ℕ)
      → MatchOption r (AllWithin (λ j. pairs_before (j + 1) ≤ q) (range_with_len 1 d) 0 (length (range_with_len 1 d)))
      (λ x. (q < pairs_before (x + 1)) × (i : ℕ) × (i < length (range_with_len 1 d)) × HoldsAt (λ y. y ≡ x) (range_with_len 1 d) i × AllWithin (λ j. pairs_before (j + 1) ≤ q) (range_with_len 1 d) 0 i)
      → LateAt d q r
  late_found None h = none_left (length (range_with_len 1 d)) (sym (length-range_with_len 1 d)) h
  late_found (Some late) h =
      let l : h.1 < d = omega (arith, h.2, length-range_with_len 1 d) in
      let at : 1 + h.1 ≡ late = sym (get_or-range_with_len 1 d h.1 0 l) ∙ h.3 0 in
      let low = subst (λ x. pairs_before x ≤ q) at (before_first h.1 l h.4) in
      (omega arith, omega arith, low, omega (arith, h.0, next late))
