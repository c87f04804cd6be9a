-- Searches among the counts behind the wires.
use Rattle.std.proofs.Common.{◌≡◌, ℕ, zero, suc, ◌+◌, ◌*◌, ◌<◌, ◌≤◌, true, false, leb, leb-true, leb-false, List, length, get_or, ◌⊎◌, inl, inr, sym, refl, ap, ◌∙◌, subst, mul-le-mul_left, arith}
use Rattle.std.specs.List.{slice_range}
use Rattle.std.specs.List.Sorted.{IsPartitionPoint, IsPartitionedBy, IsNonDecreasingBy}
use Rattle.std.proofs.lemmas.List.Edits.{get_or-between, length-between}
use Rattle.std.proofs.lemmas.List.Sorted.{IsPartitionedBy-leb}
use Rattle.std.proofs.lemmas.Bool.{cases_lt}
use Rattle.gates.specs.declared.gate.Gate.{Gate}
use Rattle.sources.specs.declared.rows.Before.{Before}
use Rattle.sources.specs.Rows.{CountsBefore, Row}
use Rattle.sources.specs.Places.{place}
use Rattle.sources.proofs.Ranks.{plain_up, registers_up}

-- f reads from a count before wire w what g says of w
module _ (gs : List Gate) (row : List Before) (f : Before → ℕ) (g : ℕ → ℕ) (counted : Row row gs) (few : length gs ≤ 256)
    (same : (w : ℕ) (b : Before) → CountsBefore gs w b → f b ≡ g w) (rises : (w v : ℕ) → w ≤ v → g w ≤ g v) where
  behind_length : length (slice_range row 1 (length gs + 1)) ≡ length gs
  behind_length = length-between row 1 (length gs + 1) (omega (arith, counted.0)) ∙ omega arith

  behind_is : (i : ℕ) (d : Before) → i < length gs → f (get_or (slice_range row 1 (length gs + 1)) i d) ≡ g (i + 1)
  behind_is i d h =
      let at : 1 + i ≡ i + 1 = omega arith in
      ap f (get_or-between row 1 (length gs + 1) i d (omega arith)) ∙ (same (1 + i) _ (counted.1 (1 + i) d (omega arith)) ∙ ap g at)

  behind_rises : IsNonDecreasingBy f (slice_range row 1 (length gs + 1))
  behind_rises i j d le lt =
      let long = behind_length in
      let a = behind_is i d (omega arith) in
      let b = behind_is j d (omega arith) in
      let up = rises (i + 1) (j + 1) (omega arith) in
      omega (arith, a, b, up)

  pub parted : (xs : List Before) (k : ℕ) → xs ≡ slice_range row 1 (length gs + 1) → IsPartitionedBy (λ b. leb (f b) k) xs
  parted xs k e = subst (IsPartitionedBy (λ b. leb (f b) k)) (sym e) (IsPartitionedBy-leb f (slice_range row 1 (length gs + 1)) k behind_rises)

  point_found : (k r : ℕ) (d : Before) → g 0 ≤ k → k < g (length gs)
      → IsPartitionPoint (λ b. leb (f b) k ≡ true) (λ b. leb (f b) k ≡ false) (slice_range row 1 (length gs + 1)) r → r ≤ length gs
      → (r < length gs) × (g r ≤ k)
  point_found k zero d low high point h = (above (length gs) refl, low)
    where
      above : (n : ℕ) → n ≡ length gs → 0 < length gs
      above zero e = absurd (omega (arith, ap g e))
      above (suc n) e = omega arith
  point_found k (suc r) d low high point h =
      let last = leb-true _ k (point.0 r d (omega arith) (omega arith)) in
      let here = behind_is r d (omega arith) in
      let at : r + 1 ≡ suc r = omega arith in
      let fits : g (suc r) ≤ k = omega (arith, last, here, ap g at) in
      (below (cases_lt (suc r) (length gs)) fits, fits)
    where
      below : (suc r < length gs) ⊎ (length gs ≤ suc r) → g (suc r) ≤ k → suc r < length gs
      below (inl l) fits = l
      below (inr m) fits = let e : suc r ≡ length gs = omega arith in absurd (omega (arith, ap g e))

  pub found : (xs : List Before) (k r : ℕ) (d : Before) → xs ≡ slice_range row 1 (length gs + 1) → g 0 ≤ k → k < g (length gs) → r ≤ length xs
      → IsPartitionPoint (λ b. leb (f b) k ≡ true) (λ b. leb (f b) k ≡ false) xs r
      → (g r ≤ k) × (k < g (r + 1)) × (r < length gs)
  found xs k r d e low high h point =
      let long = ap length e ∙ behind_length in
      let point' = subst (λ ys. IsPartitionPoint (λ b. leb (f b) k ≡ true) (λ b. leb (f b) k ≡ false) ys r) e point in
      let at = point_found k r d low high point' (omega arith) in
      let within = at.0 in
      let past = leb-false _ k (point'.1 r d (omega arith) (omega (arith, behind_length))) in
      (at.1, omega (arith, past, behind_is r d within), within)

-- what is read for the clauses, and for the registers
pub place_same : (gs : List Gate) (c size : ℕ) → c ≡ size → (w : ℕ) (b : Before) → CountsBefore gs w b → b.plain + c * b.registers ≡ place gs size w
place_same gs c size e w b h = let p = h.0 in let r = h.1 in cc (e, p, r)

pub place_up : (gs : List Gate) (c w v : ℕ) → w ≤ v → place gs c w ≤ place gs c v
place_up gs c w v h = let r = mul-le-mul_left c (registers_up gs w v h) in omega (arith, plain_up gs w v h, r)
