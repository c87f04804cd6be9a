-- Marks: the clauses of the base behind its frames, and long clauses literal by literal.
use Rattle.std.proofs.Common.{◌≡◌, ℕ, zero, suc, ◌+◌, ◌-◌, ◌*◌, ◌/◌, ◌<◌, ◌≤◌, List, [], ◌∷◌, ◌++◌, length, Some, None, sym, refl, ap, ◌∙◌, append_assoc, append-nil, add-zero, add-suc, mul-zero, zero-add, mul-suc, arith, length-append}
use Rattle.std.specs.List.{slice_get}
use Rattle.std.proofs.lemmas.Option.{slice_get_past}
use Rattle.values.specs.Sides.{rail1}
use Rattle.clauses.specs.Clauses.{Clause, plus, minus, across}
use Rattle.clauses.proofs.Blocks.{length_blocks, nth_blocks, nth_left, nth_right}
use Rattle.formulas.specs.Formulas.{rail_var, base_mark, base_marks, base_bad}
use Rattle.sources.specs.Places.{row_of}

module _ {A : Type 0} where
  pub across_same : (n : ℕ) (f g : ℕ → List A) → ((w : ℕ) → f w ≡ g w) → across n f ≡ across n g
  across_same zero f g e = refl
  across_same (suc n) f g e = let a = across_same n f g e in let b = e n in cc

  across_add : (a b : ℕ) (h : ℕ → List A) → across (a + b) h ≡ across a h ++ across b (λ x. h (a + x))
  across_add a zero h = ap (λ x. across x h) (add-zero a) ∙ sym (append-nil (across a h))
  across_add a (suc b) h =
      ap (λ x. across x h) (add-suc a b)
      ∙ (ap (λ x. x ++ h (a + b)) (across_add a b h) ∙ append_assoc (across a h) (across b (λ x. h (a + x))) (h (a + b)))

  -- block after block, and all at once
  pub flat : (n d : ℕ) (h : ℕ → List A) → across d (λ i. across n (λ w. h (n * i + w))) ≡ across (n * d) h
  flat n zero h = ap (λ x. across x h) (sym (mul-zero n))
  flat n (suc d) h =
      ap (λ x. x ++ across n (λ w. h (n * d + w))) (flat n d h)
      ∙ (sym (across_add (n * d) n h) ∙ ap (λ x. across x h) (sym (mul-suc n d)))

  -- blocks of two, and of one
  pub nth_twos : (n : ℕ) (a b : ℕ → A) (j : ℕ) → j < 2 * n → slice_get (across n (λ x. a x ∷ b x ∷ [])) j ≡ slice_get (a (j / 2) ∷ b (j / 2) ∷ []) (j - 2 * (j / 2))
  nth_twos n a b j h = nth_blocks (λ x. a x ∷ b x ∷ []) (λ x. 2 * x) refl (λ w. omega arith) n (j / 2) j (omega arith) (omega arith) (omega arith)

  pub length_twos : (n : ℕ) (a b : ℕ → A) → length (across n (λ x. a x ∷ b x ∷ [])) ≡ 2 * n
  length_twos n a b = length_blocks (λ x. a x ∷ b x ∷ []) (λ x. 2 * x) refl (λ w. omega arith) n

  pub nth_ones : (n : ℕ) (a : ℕ → A) (j : ℕ) → j < n → slice_get (across n (λ x. a x ∷ [])) j ≡ Some (a j)
  nth_ones n a j h = nth_blocks (λ x. a x ∷ []) (λ x. x) refl (λ w. omega arith) n j j h (omega arith) (omega arith) ∙ (let e : j - j ≡ 0 = omega arith in ap (slice_get (a j ∷ [])) e)

  pub length_ones : (n : ℕ) (a : ℕ → A) → length (across n (λ x. a x ∷ [])) ≡ n
  length_ones n a = length_blocks (λ x. a x ∷ []) (λ x. x) refl (λ w. omega arith) n

-- the clauses of a row of marks from f on, for the rails from b on
abbrev pub mark0 : ℕ → ℕ → ℕ → Clause
mark0 f b x = minus (f + x) ∷ minus (b + 2 * x) ∷ []

abbrev pub mark1 : ℕ → ℕ → ℕ → Clause
mark1 f b x = minus (f + x) ∷ minus (b + 2 * x + 1) ∷ []

pick : (f b x r j : ℕ) → r < 2 → 2 * x + r ≡ j → slice_get (mark0 f b x ∷ mark1 f b x ∷ []) r ≡ Some (minus (f + x) ∷ minus (b + j) ∷ [])
pick f b x zero j h e = let s : b + 2 * x ≡ b + j = omega arith in ap (λ y. Some (minus (f + x) ∷ minus y ∷ [])) s
pick f b x (suc zero) j h e = let s : b + 2 * x + 1 ≡ b + j = omega arith in ap (λ y. Some (minus (f + x) ∷ minus y ∷ [])) s
pick f b x (suc (suc r)) j h e = absurd (omega arith)

pub nth_marks : (f b n j : ℕ) → j < 2 * n → slice_get (across n (λ x. mark0 f b x ∷ mark1 f b x ∷ [])) j ≡ Some (minus (f + j / 2) ∷ minus (b + j) ∷ [])
nth_marks f b n j h = nth_twos n (mark0 f b) (mark1 f b) j h ∙ pick f b (j / 2) (j - 2 * (j / 2)) j (omega arith) (omega arith)

pub two_same : (u u' v v' z z' : ℕ) → u ≡ u' → v ≡ v' → z ≡ z' → ◌≡◌ {A = List Clause} ((minus u ∷ minus v ∷ []) ∷ (minus u ∷ minus z ∷ []) ∷ []) ((minus u' ∷ minus v' ∷ []) ∷ (minus u' ∷ minus z' ∷ []) ∷ [])
two_same u u' v v' z z' e f g = cc

plus_same : (u u' : ℕ) → u ≡ u' → ◌≡◌ {A = Clause} (plus u ∷ []) (plus u' ∷ [])
plus_same u u' e = ap (λ x. plus x ∷ []) e

module _ (n d : ℕ) where
  base_flat : base_marks n d ≡ across (n * d) (λ x. mark0 (2 * (n * d)) 0 x ∷ mark1 (2 * (n * d)) 0 x ∷ [])
  base_flat =
      across_same d _ _ (λ i. across_same n _ (λ w. mark0 (2 * (n * d)) 0 (n * i + w) ∷ mark1 (2 * (n * d)) 0 (n * i + w) ∷ []) (λ w. two_same _ _ _ _ _ _ (omega arith) (omega arith) (omega arith)))
      ∙ flat n d (λ x. mark0 (2 * (n * d)) 0 x ∷ mark1 (2 * (n * d)) 0 x ∷ [])

  base_length : length (base_marks n d) ≡ 2 * (n * d)
  base_length = ap length base_flat ∙ length_twos (n * d) (mark0 (2 * (n * d)) 0) (mark1 (2 * (n * d)) 0)

  bad_flat : (p : ℕ) → base_bad n p d ≡ row_of n p (2 * (n * d)) (n * d) 0 d
  bad_flat p =
      let marks = across_same d (λ i. across n (λ w. plus (base_mark n d i w) ∷ [])) _ (λ i. across_same n (λ w. plus (base_mark n d i w) ∷ []) (λ w. plus (2 * (n * d) + (n * i + w)) ∷ []) (λ w. plus_same _ _ (omega arith))) ∙ flat n d (λ x. plus (2 * (n * d) + x) ∷ []) in
      let fails = across_same d (λ i. minus (rail_var n i (rail1 p)) ∷ []) (λ i. minus (rail_var n (0 + i) (rail1 p)) ∷ []) (λ i. ap (λ x. minus (rail_var n x (rail1 p)) ∷ []) (sym (zero-add i))) in
      cc (marks, fails)

  module _ (p j : ℕ) where
    pub tail_mark : j < 2 * (n * d) → Some (minus (2 * (n * d) + j / 2) ∷ minus j ∷ []) ≡ slice_get (base_marks n d ++ base_bad n p d ∷ []) j
    tail_mark h =
        ap (λ x. Some (minus (2 * (n * d) + j / 2) ∷ minus x ∷ [])) (sym (zero-add j))
        ∙ (sym (nth_marks (2 * (n * d)) 0 (n * d) j h)
        ∙ (ap (λ x. slice_get x j) (sym base_flat) ∙ sym (nth_left (base_marks n d) (base_bad n p d ∷ []) j (omega (arith, base_length)))))

    pub tail_bad : j ≡ 2 * (n * d) → Some (row_of n p (2 * (n * d)) (n * d) 0 d) ≡ slice_get (base_marks n d ++ base_bad n p d ∷ []) j
    tail_bad e =
        let here : 0 ≡ j - length (base_marks n d) = omega (arith, base_length) in
        ap Some (sym (bad_flat p)) ∙ (ap (slice_get (base_bad n p d ∷ [])) here ∙ sym (nth_right (base_marks n d) (base_bad n p d ∷ []) j (omega (arith, base_length))))

    pub tail_past : 2 * (n * d) ≤ j → (j ≡ 2 * (n * d) → ⊥) → None ≡ slice_get (base_marks n d ++ base_bad n p d ∷ []) j
    tail_past h e = sym (slice_get_past (base_marks n d ++ base_bad n p d ∷ []) j (omega (arith, length-append (base_marks n d) (base_bad n p d ∷ []), base_length)))

  pub tail_length : (p : ℕ) → length (base_marks n d ++ base_bad n p d ∷ []) ≡ 2 * (n * d) + 1
  tail_length p = omega (arith, length-append (base_marks n d) (base_bad n p d ∷ []), base_length)

-- a long clause, literal by literal
module _ (n p first count frame frames : ℕ) where
  pub row_length : count + frames ≡ length (row_of n p first count frame frames)
  row_length =
      let a = across count (λ x. plus (first + x) ∷ []) in
      let b = across frames (λ i. minus (rail_var n (frame + i) (rail1 p)) ∷ []) in
      omega (arith, length-append a b, length_ones count (λ x. plus (first + x)), length_ones frames (λ i. minus (rail_var n (frame + i) (rail1 p))))

  module _ (at : ℕ) where
    pub row_mark : at < count → Some (plus (first + at)) ≡ slice_get (row_of n p first count frame frames) at
    row_mark h =
        let long = length_ones count (λ x. plus (first + x)) in
        sym (nth_left (across count (λ x. plus (first + x) ∷ [])) _ at (omega (arith, long)) ∙ nth_ones count (λ x. plus (first + x)) at h)

    pub row_fail : count ≤ at → at - count < frames → Some (minus (rail_var n (frame + (at - count)) (rail1 p))) ≡ slice_get (row_of n p first count frame frames) at
    row_fail h l =
        let long = length_ones count (λ x. plus (first + x)) in
        let b = across frames (λ i. minus (rail_var n (frame + i) (rail1 p)) ∷ []) in
        sym (nth_right (across count (λ x. plus (first + x) ∷ [])) b at (omega (arith, long))
        ∙ (ap (λ x. slice_get b (at - x)) long ∙ nth_ones frames (λ i. minus (rail_var n (frame + i) (rail1 p))) (at - count) l))

    pub row_past : count ≤ at → frames ≤ at - count → None ≡ slice_get (row_of n p first count frame frames) at
    row_past h l = sym (slice_get_past (row_of n p first count frame frames) at (omega (arith, row_length)))
