-- The step formula's parts.
use Rattle.std.proofs.Common.{◌≡◌, ℕ, ◌+◌, ◌-◌, ◌*◌, ◌<◌, ◌≤◌, List, [], ◌∷◌, ◌++◌, length, Some, Option, sym, ap, ◌∙◌, subst, append_assoc, arith}
use Rattle.std.specs.List.{slice_get}
use Rattle.gates.specs.declared.gate.Gate.{Gate}
use Rattle.clauses.specs.Clauses.{Clause}
use Rattle.clauses.proofs.Blocks.{nth_left, nth_right}
use Rattle.formulas.specs.Formulas.{step_frames, step_good, mark_clauses, step_mark, step_bad, step_pairs, step}
use Rattle.sources.specs.declared.shape.Shape.{Shape}
use Rattle.sources.specs.Places.{clause_of, step_middle, step_tail}
use Rattle.sources.proofs.Between.{good_length, middle_length}

parts : {X : Type 0} (a b c e f : List X) → a ++ b ++ c ++ e ++ f ≡ a ++ (b ++ (c ++ e ++ f))
parts a b c e f = ap (λ x. x ++ f) (append_assoc (a ++ b) c e) ∙ (append_assoc (a ++ b) (c ++ e) f ∙ append_assoc a b (c ++ e ++ f))

pub step_is : (gs : List Gate) (p d : ℕ) → step gs p d ≡ step_frames gs d ++ step_tail gs p d
step_is gs p d =
    let n = length gs in
    parts (step_frames gs d) (step_good n p d) (mark_clauses n d (step_mark n d)) (step_bad n p d ∷ []) (step_pairs gs d)

module _ (gs : List Gate) (p d k : ℕ) where
  good_here : (o : Option (Clause)) → k < d * (length gs + 1) → o ≡ slice_get (step_good (length gs) p d) k → o ≡ slice_get (step_tail gs p d) k
  good_here o h said = said ∙ sym (nth_left (step_good (length gs) p d) _ k (omega (arith, good_length (length gs) p d)))

  past_good : d * (length gs + 1) ≤ k → slice_get (step_middle (length gs) p d ++ step_pairs gs d) (k - d * (length gs + 1)) ≡ slice_get (step_tail gs p d) k
  past_good h =
      let long = good_length (length gs) p d in
      ap (λ x. slice_get (step_middle (length gs) p d ++ step_pairs gs d) (k - x)) (sym long) ∙ sym (nth_right (step_good (length gs) p d) _ k (omega (arith, long)))

  middle_here : (o : Option (Clause)) → d * (length gs + 1) ≤ k → k - d * (length gs + 1) ≤ 2 * length gs → o ≡ slice_get (step_middle (length gs) p d) (k - d * (length gs + 1)) → o ≡ slice_get (step_tail gs p d) k
  middle_here o h l said =
      said ∙ (sym (nth_left (step_middle (length gs) p d) _ (k - d * (length gs + 1)) (omega (arith, middle_length (length gs) p d))) ∙ past_good h)

  pairs_here : (o : Option (Clause)) → d * (length gs + 1) ≤ k → 2 * length gs < k - d * (length gs + 1) → o ≡ slice_get (step_pairs gs d) (k - d * (length gs + 1) - (2 * length gs + 1)) → o ≡ slice_get (step_tail gs p d) k
  pairs_here o h l said =
      let long = middle_length (length gs) p d in
      said
      ∙ (ap (λ x. slice_get (step_pairs gs d) (k - d * (length gs + 1) - x)) (sym long)
      ∙ (sym (nth_right (step_middle (length gs) p d) _ (k - d * (length gs + 1)) (omega (arith, long))) ∙ past_good h))

  -- the code's ways
  module _ (n q e : ℕ) (z : n ≡ length gs) (x : q ≡ p) (y : e ≡ d) where
    pub turn_good : (o : Option Clause) → k < e * (n + 1) → o ≡ slice_get (step_good n q e) k → o ≡ slice_get (step_tail gs p d) k
    turn_good o =
        subst (λ m. k < e * (m + 1) → o ≡ slice_get (step_good m q e) k → o ≡ slice_get (step_tail gs p d) k) (sym z)
        (subst (λ m. k < e * (length gs + 1) → o ≡ slice_get (step_good (length gs) m e) k → o ≡ slice_get (step_tail gs p d) k) (sym x)
        (subst (λ m. k < m * (length gs + 1) → o ≡ slice_get (step_good (length gs) p m) k → o ≡ slice_get (step_tail gs p d) k) (sym y) (good_here o)))

    pub turn_middle : (o : Shape) → e * (n + 1) ≤ k → k - e * (n + 1) ≤ 2 * n → Some (clause_of n q o) ≡ slice_get (step_middle n q e) (k - e * (n + 1)) → Some (clause_of (length gs) p o) ≡ slice_get (step_tail gs p d) k
    turn_middle o =
        subst (λ m. e * (m + 1) ≤ k → k - e * (m + 1) ≤ 2 * m → Some (clause_of m q o) ≡ slice_get (step_middle m q e) (k - e * (m + 1)) → Some (clause_of (length gs) p o) ≡ slice_get (step_tail gs p d) k) (sym z)
        (subst (λ m. e * (length gs + 1) ≤ k → k - e * (length gs + 1) ≤ 2 * length gs → Some (clause_of (length gs) m o) ≡ slice_get (step_middle (length gs) m e) (k - e * (length gs + 1)) → Some (clause_of (length gs) p o) ≡ slice_get (step_tail gs p d) k) (sym x)
        (subst (λ m. m * (length gs + 1) ≤ k → k - m * (length gs + 1) ≤ 2 * length gs → Some (clause_of (length gs) p o) ≡ slice_get (step_middle (length gs) p m) (k - m * (length gs + 1)) → Some (clause_of (length gs) p o) ≡ slice_get (step_tail gs p d) k) (sym y)
        (middle_here (Some (clause_of (length gs) p o)))))

  module _ (n e : ℕ) (z : n ≡ length gs) (y : e ≡ d) where
    pub turn_pairs : (o : Option Clause) → e * (n + 1) ≤ k → 2 * n < k - e * (n + 1) → o ≡ slice_get (step_pairs gs d) (k - e * (n + 1) - (2 * n + 1)) → o ≡ slice_get (step_tail gs p d) k
    turn_pairs o =
        subst (λ m. e * (m + 1) ≤ k → 2 * m < k - e * (m + 1) → o ≡ slice_get (step_pairs gs d) (k - e * (m + 1) - (2 * m + 1)) → o ≡ slice_get (step_tail gs p d) k) (sym z)
        (subst (λ m. m * (length gs + 1) ≤ k → 2 * length gs < k - m * (length gs + 1) → o ≡ slice_get (step_pairs gs d) (k - m * (length gs + 1) - (2 * length gs + 1)) → o ≡ slice_get (step_tail gs p d) k) (sym y)
        (pairs_here o))
