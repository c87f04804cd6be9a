-- The pairs of frames of the step.
use Rattle.std.proofs.Common.{◌≡◌, ℕ, zero, suc, ◌+◌, ◌-◌, ◌*◌, ◌/◌, ◌%◌, ◌<◌, ◌≤◌, List, [], ◌∷◌, ◌++◌, length, map, get_or, Some, None, Option, sym, refl, ap, ◌∙◌, subst, append-nil, add-zero, mul-le-mul_right, mod-lt, add-one, arith, length-append}
use native.Mathlib.Nat.{div-add-mod}
use Rattle.std.specs.List.{slice_get}
use Rattle.std.proofs.lemmas.Option.{slice_get_past, slice_get-get_or, slice_get-map}
use Rattle.std.proofs.lemmas.List.{length-map}
use Rattle.std.specs.Option.{option_map}
use Rattle.values.specs.Sides.{rail0}
use Rattle.gates.specs.declared.gate.Gate.{Gate}
use Rattle.clauses.specs.Clauses.{Clause, plus, minus, across}
use Rattle.clauses.proofs.Blocks.{nth_left, nth_right, length_blocks, nth_blocks, length_uniform}
use Rattle.formulas.specs.Drives.{Drive, input, register, settled, driver}
use Rattle.formulas.specs.Formulas.{rail_var, on_register, differs, difference_mark, pair_clauses, step_pairs, pairs_before}
use Rattle.formulas.proofs.Pairs.{pairs_more}
use Rattle.wireclauses.specs.declared.literals.Few.{Few}
use Rattle.wireclauses.specs.Literals.{few_of}
use Rattle.wireclauses.specs.Sizes.{one_if}
use Rattle.sources.specs.Rows.{registers_before}
use Rattle.sources.specs.declared.pairs.Pair.{Pair}
use Rattle.sources.specs.Places.{row_of, first_difference, PairAt}
use Rattle.sources.proofs.Ranks.{rank_more}
use Rattle.sources.proofs.Marks.{across_same}

-- the depth as the code has it
pub pair_past : (e d q : ℕ) → e ≡ d → PairAt e q None → pairs_before (d + 1) ≤ q
pair_past e d q z h = subst (λ x. pairs_before (x + 1) ≤ q) z h

pub pair_here : (e d q : ℕ) (pair : Pair) → e ≡ d → PairAt e q (Some pair) → PairAt d q (Some pair)
pair_here e d q pair z h = subst (λ x. PairAt x q (Some pair)) z h

-- what is listed for registers
module _ {A : Type 0} where
  pub on_length : (g : Drive) (x y : A) → length (on_register g (x ∷ y ∷ [])) ≡ 2 * one_if g
  on_length input x y = refl
  on_length (register s) x y = refl
  on_length (settled s) x y = refl

  pub on_this : (g : Drive) (xs : List A) (before at : ℕ) → before ≤ at → at < before + one_if g → (on_register g xs ≡ xs) × (before ≡ at)
  on_this input xs before at a b = absurd (omega arith)
  on_this (register s) xs before at a b = (refl, omega arith)
  on_this (settled s) xs before at a b = absurd (omega arith)

  -- one for each register: one for each rank
  by_rank : (g : Drive) (k : ℕ) (h : ℕ → A) → across k (λ x. h x ∷ []) ++ on_register g (h k ∷ []) ≡ across (k + one_if g) (λ x. h x ∷ [])
  by_rank input k h = append-nil _ ∙ ap (λ x. across x (λ x. h x ∷ [])) (sym (add-zero k))
  by_rank (register s) k h = ap (λ x. across x (λ x. h x ∷ [])) (sym (add-one k))
  by_rank (settled s) k h = append-nil _ ∙ ap (λ x. across x (λ x. h x ∷ [])) (sym (add-zero k))

  pub ranked : (gs : List Gate) (h : ℕ → A) (n : ℕ) → across n (λ w. on_register (driver gs w) (h (registers_before gs w) ∷ [])) ≡ across (registers_before gs n) (λ x. h x ∷ [])
  ranked gs h zero = refl
  ranked gs h (suc n) = ap (λ x. x ++ on_register (driver gs n) (h (registers_before gs n) ∷ [])) (ranked gs h n) ∙ by_rank (driver gs n) (registers_before gs n) h ∙ ap (λ x. across x (λ x. h x ∷ [])) (sym (rank_more gs n))

-- the two parts of a pair's clauses
abbrev pair_differs : List Gate → ℕ → ℕ → ℕ → List Clause
pair_differs gs d i j = across (length gs) (λ w. on_register (driver gs w) (differs (length gs) i j w (difference_mark gs d i j w)))

abbrev pair_marks : List Gate → ℕ → ℕ → ℕ → Clause
pair_marks gs d i j = across (length gs) (λ w. on_register (driver gs w) (plus (difference_mark gs d i j w) ∷ []))

module _ (gs : List Gate) where
  module _ (d i j : ℕ) where
    lines_none : 2 * registers_before gs 0 ≡ 0
    lines_none = refl

    lines_more : (w : ℕ) → 2 * registers_before gs (suc w) ≡ 2 * registers_before gs w + length (on_register (driver gs w) (differs (length gs) i j w (difference_mark gs d i j w)))
    lines_more w = omega (arith, on_length (driver gs w) (minus (difference_mark gs d i j w) ∷ plus (rail_var (length gs) i (rail0 w)) ∷ plus (rail_var (length gs) j (rail0 w)) ∷ []) (minus (difference_mark gs d i j w) ∷ minus (rail_var (length gs) i (rail0 w)) ∷ minus (rail_var (length gs) j (rail0 w)) ∷ []), rank_more gs w)

    lines_length : length (pair_differs gs d i j) ≡ 2 * registers_before gs (length gs)
    lines_length = length_blocks _ (λ w. 2 * registers_before gs w) lines_none lines_more (length gs)

    pub pair_length : length (pair_clauses gs d i j) ≡ 2 * registers_before gs (length gs) + 1
    pair_length = omega (arith, length-append (pair_differs gs d i j) (pair_marks gs d i j ∷ []), lines_length)

-- what is read of a row of clauses
pub read_clause : (xs : List Few) (i : ℕ) (x : Few) (cs : List Clause) → map few_of xs ≡ cs → i < length cs → Some (few_of (get_or xs i x)) ≡ slice_get cs i
read_clause xs i x cs e h =
    let long = sym (length-map xs few_of) ∙ ap length e in
    ap (option_map few_of) (sym (slice_get-get_or xs i x (omega (arith, long)))) ∙ (sym (slice_get-map few_of xs i) ∙ ap (λ ys. slice_get ys i) e)

module _ (gs : List Gate) (d i j q : ℕ) (h : pairs_before j + i ≡ q) where
  diff_is : (w : ℕ) → difference_mark gs d i j w ≡ first_difference gs d q + registers_before gs w
  diff_is w = ap (λ x. first_difference gs d x + registers_before gs w) h

  -- the code's way to a register
  pub turn_differ : (n m first w e r : ℕ) (o : Option (Clause)) → n ≡ length gs → m ≡ registers_before gs (length gs) → first ≡ first_difference gs d q → r < 2 * m → registers_before gs w ≤ r / 2 → r / 2 < registers_before gs (w + 1) → w < length gs → e ≡ first + r / 2 → o ≡ slice_get (differs n i j w e) (r % 2) → o ≡ slice_get (pair_clauses gs d i j) r
  turn_differ n m first w e r o z mm f l a b wl ee said =
      let b' = subst (λ x. r / 2 < x) (rank_more gs w) (subst (λ x. r / 2 < registers_before gs x) (add-one w) b) in
      let on = on_this (driver gs w) (differs (length gs) i j w (difference_mark gs d i j w)) (registers_before gs w) (r / 2) a b' in
      let here : r % 2 ≡ r - 2 * registers_before gs w = (let e2 = on.1 in omega arith) in
      let mark : e ≡ difference_mark gs d i j w = ee ∙ (ap (λ x. x + r / 2) f ∙ (ap (λ x. first_difference gs d q + x) (sym on.1) ∙ sym (diff_is w))) in
      said
      ∙ (ap (λ x. slice_get (differs x i j w e) (r % 2)) z
      ∙ (ap (slice_get (differs (length gs) i j w e)) here
      ∙ (ap (λ x. slice_get (differs (length gs) i j w x) (r - 2 * registers_before gs w)) mark
      ∙ (ap (λ x. slice_get x (r - 2 * registers_before gs w)) (sym on.0)
      ∙ (sym (nth_blocks (λ w. on_register (driver gs w) (differs (length gs) i j w (difference_mark gs d i j w))) (λ w. 2 * registers_before gs w) (lines_none gs d i j) (lines_more gs d i j) (length gs) w r wl (omega (arith, a)) (omega (arith, b', rank_more gs w)))
      ∙ sym (nth_left (pair_differs gs d i j) _ r (let long = lines_length gs d i j in omega (arith, long, mm))))))))

  pub turn_pair_long : (p m first r : ℕ) → m ≡ registers_before gs (length gs) → first ≡ first_difference gs d q → 2 * m ≤ r → r ≤ 2 * registers_before gs (length gs) → Some (row_of (length gs) p first m 0 0) ≡ slice_get (pair_clauses gs d i j) r
  turn_pair_long p m first r mm f a b =
      let marks : pair_marks gs d i j ≡ across (registers_before gs (length gs)) (λ x. plus (first_difference gs d q + x) ∷ []) =
      across_same (length gs) _ (λ w. on_register (driver gs w) (plus (first_difference gs d q + registers_before gs w) ∷ [])) (λ w. ap (λ x. on_register (driver gs w) (plus x ∷ [])) (diff_is w))
      ∙ ranked gs (λ x. plus (first_difference gs d q + x)) (length gs) in
      let long = lines_length gs d i j in
      let here : 0 ≡ r - length (pair_differs gs d i j) = omega (arith, long, mm) in
      ap Some (append-nil (across m (λ x. plus (first + x) ∷ [])) ∙ (ap (λ y. across y (λ x. plus (first + x) ∷ [])) mm ∙ (ap (λ y. across (registers_before gs (length gs)) (λ x. plus (y + x) ∷ [])) f ∙ sym marks)))
      ∙ (ap (slice_get (pair_marks gs d i j ∷ [])) here
      ∙ sym (nth_right (pair_differs gs d i j) (pair_marks gs d i j ∷ []) r (omega (arith, long, mm))))

module _ (gs : List Gate) (d : ℕ) where
  row_length : (j : ℕ) → length (across j (λ i. pair_clauses gs d i j)) ≡ j * (2 * registers_before gs (length gs) + 1)
  row_length j = length_uniform (λ i. pair_clauses gs d i j) (2 * registers_before gs (length gs) + 1) (omega arith) (λ i. pair_length gs d i j) j

  rows_more : (j : ℕ) → pairs_before (suc j) * (2 * registers_before gs (length gs) + 1) ≡ pairs_before j * (2 * registers_before gs (length gs) + 1) + length (across j (λ i. pair_clauses gs d i j))
  rows_more j = let b = row_length j in ap (λ x. x * (2 * registers_before gs (length gs) + 1)) (pairs_more j) ∙ omega (arith, b)

  pub pairs_length : length (step_pairs gs d) ≡ pairs_before (d + 1) * (2 * registers_before gs (length gs) + 1)
  pairs_length = length_blocks _ (λ j. pairs_before j * (2 * registers_before gs (length gs) + 1)) (omega arith) rows_more (d + 1)

  pub pairs_past : (k q size : ℕ) → size ≡ 2 * registers_before gs (length gs) + 1 → q ≡ k / size → pairs_before (d + 1) ≤ q → None ≡ slice_get (step_pairs gs d) k
  pairs_past k q size z e h =
      let whole = div-add-mod k size in
      let up = mul-le-mul_right size h in
      let down : q * size ≤ k = subst (λ x. x * size ≤ k) (sym e) (omega (arith, whole)) in
      let long = pairs_length ∙ ap (λ x. pairs_before (d + 1) * x) (sym z) in
      sym (slice_get_past (step_pairs gs d) k (omega (arith, long)))

  module _ (i j k b : ℕ) (z : b ≡ 2 * registers_before gs (length gs) + 1) (l : i < j) (top : j ≤ d) (e : pairs_before j + i ≡ k / b) where
    whole : b * (pairs_before j + i) + k % b ≡ k
    whole = subst (λ x. b * x + k % b ≡ k) (sym e) (div-add-mod k b)

    some : 0 < b
    some = omega arith

    less : k % b < b
    less = mod-lt k some

    enough : suc i * b ≤ j * b
    enough = mul-le-mul_right b l

    more : (j : ℕ) → pairs_before (suc j) * b ≡ pairs_before j * b + length (across j (λ i. pair_clauses gs d i j))
    more j = let long = length_uniform (λ i. pair_clauses gs d i j) b some (λ i. pair_length gs d i j ∙ sym z) j in ap (λ x. x * b) (pairs_more j) ∙ omega (arith, long)

    pub nth_pairs : slice_get (step_pairs gs d) k ≡ slice_get (pair_clauses gs d i j) (k % b)
    nth_pairs =
        let low : pairs_before j * b ≤ k = omega (arith, whole) in
        let high : k < pairs_before (suc j) * b = subst (λ x. k < x * b) (sym (pairs_more j)) (omega (arith, whole, less, enough)) in
        let low' : i * b ≤ k - pairs_before j * b = omega (arith, whole) in
        let high' : k - pairs_before j * b < suc i * b = omega (arith, whole, less) in
        let rest : k - pairs_before j * b - i * b ≡ k % b = omega (arith, whole) in
        nth_blocks (λ j. across j (λ i. pair_clauses gs d i j)) (λ j. pairs_before j * b) (omega arith) more (d + 1) j k (omega arith) low high
        ∙ (nth_blocks (λ i. pair_clauses gs d i j) (λ i. i * b) (omega arith) (λ i. omega (arith, pair_length gs d i j, z)) j i (k - pairs_before j * b) l low' high'
        ∙ ap (slice_get (pair_clauses gs d i j)) rest)
