-- The good frames of the step, the marks of its last frame, and the clause that this frame is bad.
use Rattle.std.proofs.Common.{◌≡◌, ℕ, ◌+◌, ◌-◌, ◌*◌, ◌/◌, ◌%◌, ◌<◌, ◌≤◌, [], ◌∷◌, ◌++◌, length, Some, sym, ap, ◌∙◌, add-zero, mod-lt, div-lt_iff_lt-mul, arith, length-append}
use Rattle.std.specs.List.{slice_get}
use Rattle.values.specs.Sides.{rail1}
use Rattle.clauses.specs.Clauses.{plus, minus, across}
use Rattle.clauses.proofs.Blocks.{nth_left, nth_right, nth_uniform, length_uniform}
use Rattle.formulas.specs.Formulas.{rail_var, defined, mark_clauses, step_mark, step_good, step_bad}
use Rattle.sources.specs.Places.{row_of, step_middle}
use Rattle.sources.proofs.Marks.{mark0, mark1, nth_marks, length_twos, nth_ones, length_ones}

module _ (n p : ℕ) where
  frame_size : (i : ℕ) → length (across n (λ w. defined n i w ∷ []) ++ (plus (rail_var n i (rail1 p)) ∷ []) ∷ []) ≡ n + 1
  frame_size i = omega (arith, length-append (across n (λ w. defined n i w ∷ [])) ((plus (rail_var n i (rail1 p)) ∷ []) ∷ []), length_ones n (defined n i))

  pub good_length : (d : ℕ) → length (step_good n p d) ≡ d * (n + 1)
  good_length d = length_uniform _ (n + 1) (omega arith) frame_size d

  module _ (d j : ℕ) (h : j < d * (n + 1)) where
    pub good_at : j / (n + 1) < d
    good_at = let some : 0 < n + 1 = omega arith in (div-lt_iff_lt-mul {x = j} {y = d} some).1 h

    pub good_wire : j % (n + 1) < n → Some (defined n (j / (n + 1)) (j % (n + 1))) ≡ slice_get (step_good n p d) j
    good_wire l =
        sym (nth_uniform (λ i. across n (λ w. defined n i w ∷ []) ++ (plus (rail_var n i (rail1 p)) ∷ []) ∷ []) (n + 1) (omega arith) frame_size d j h
        ∙ (nth_left (across n (λ w. defined n (j / (n + 1)) w ∷ [])) _ (j % (n + 1)) (omega (arith, length_ones n (defined n (j / (n + 1)))))
        ∙ nth_ones n (defined n (j / (n + 1))) (j % (n + 1)) l))

    pub good_property : n ≤ j % (n + 1) → Some (plus (rail_var n (j / (n + 1)) (rail1 p)) ∷ []) ≡ slice_get (step_good n p d) j
    good_property l =
        let i = j / (n + 1) in
        let some : 0 < n + 1 = omega arith in
        let top = mod-lt j some in
        let here : j % (n + 1) - length (across n (λ w. defined n (j / (n + 1)) w ∷ [])) ≡ 0 = omega (arith, length_ones n (defined n (j / (n + 1))), top) in
        sym (nth_uniform (λ i. across n (λ w. defined n i w ∷ []) ++ (plus (rail_var n i (rail1 p)) ∷ []) ∷ []) (n + 1) (omega arith) frame_size d j h
        ∙ (nth_right (across n (λ w. defined n (j / (n + 1)) w ∷ [])) _ (j % (n + 1)) (omega (arith, length_ones n (defined n (j / (n + 1)))))
        ∙ ap (slice_get ((plus (rail_var n (j / (n + 1)) (rail1 p)) ∷ []) ∷ [])) here))

  module _ (d : ℕ) where
    bad_row : step_bad n p d ≡ row_of n p (2 * n * (d + 1)) n d 1
    bad_row = ap (λ x. across n (λ w. plus (2 * n * (d + 1) + w) ∷ []) ++ minus (rail_var n x (rail1 p)) ∷ []) (sym (add-zero d))

    marks_length : length (mark_clauses n d (step_mark n d)) ≡ 2 * n
    marks_length = length_twos n (mark0 (2 * n * (d + 1)) (2 * n * d)) (mark1 (2 * n * (d + 1)) (2 * n * d))

    pub middle_length : length (step_middle n p d) ≡ 2 * n + 1
    middle_length = omega (arith, length-append (mark_clauses n d (step_mark n d)) (step_bad n p d ∷ []), marks_length)

    pub middle_mark : (j : ℕ) → j < 2 * n → Some (minus (2 * n * (d + 1) + j / 2) ∷ minus (2 * n * d + j) ∷ []) ≡ slice_get (step_middle n p d) j
    middle_mark j h = sym (nth_left (mark_clauses n d (step_mark n d)) _ j (omega (arith, marks_length)) ∙ nth_marks (2 * n * (d + 1)) (2 * n * d) n j h)

    pub middle_bad : (j : ℕ) → j ≤ 2 * n → 2 * n ≤ j → Some (row_of n p (2 * n * (d + 1)) n d 1) ≡ slice_get (step_middle n p d) j
    middle_bad j a b =
        let here : 0 ≡ j - length (mark_clauses n d (step_mark n d)) = omega (arith, marks_length) in
        ap Some (sym bad_row) ∙ (ap (slice_get (step_bad n p d ∷ [])) here ∙ sym (nth_right (mark_clauses n d (step_mark n d)) _ j (omega (arith, marks_length))))
