-- The clauses of the frames, by frame and by wire.
use Rattle.std.proofs.Common.{◌≡◌, ℕ, zero, suc, ◌+◌, ◌-◌, ◌*◌, ◌/◌, ◌%◌, ◌<◌, ◌≤◌, Bool, List, ◌∷◌, length, Option, sym, refl, ap, ◌∙◌, subst, mod-lt, div-lt_iff_lt-mul, add-one, one-add, arith}
use native.Mathlib.Nat.{div-add-mod}
use Rattle.std.specs.List.{slice_get}
use Rattle.gates.specs.declared.gate.Gate.{Gate}
use Rattle.values.specs.Sides.{Right, fixed, one, either, both, two_boths}
use Rattle.clauses.specs.Clauses.{Clause, across}
use Rattle.clauses.proofs.Blocks.{length_blocks, nth_blocks}
use Rattle.formulas.specs.Drives.{Drive, input, register, settled, drive, driver}
use Rattle.formulas.specs.Formulas.{apart, driven, frame_clauses}
use Rattle.wireclauses.specs.Sizes.{right_size, plain_size, register_size, one_if}
use Rattle.wireclauses.proofs.Wires.{wire_length}
use Rattle.sources.specs.Rows.{plain_before}
use Rattle.sources.specs.Places.{place, frame_place}
use Rattle.sources.proofs.Ranks.{rank_more}

-- every wire has two clauses at least
some_right : (r : Right ℕ) → 1 ≤ right_size r
some_right (fixed t) = omega arith
some_right (one b) = omega arith
some_right (either b c) = omega arith
some_right (both b c) = omega arith
some_right (two_boths b c e f) = omega arith

two_plain : (g : Drive) → 2 ≤ plain_size g + 4 * one_if g
two_plain input = omega arith
two_plain (register y) = omega arith
two_plain (settled s) = omega (arith, some_right s.side0, some_right s.side1)

pub two_each : (gs : List Gate) (w : ℕ) → w ≤ place gs 4 w
two_each gs zero = omega arith
two_each gs (suc w) = omega (arith, two_each gs w, two_plain (driver gs w), rank_more gs w)

module _ (starts : Bool) (gs : List Gate) (i : ℕ) where
  abbrev block : ℕ → List Clause
  block w = apart (length gs) i w ∷ driven starts (length gs) i w (driver gs w)

  place_none : place gs (register_size starts i) 0 ≡ 0
  place_none = omega arith

  place_more : (w : ℕ) → place gs (register_size starts i) (suc w) ≡ place gs (register_size starts i) w + length (block w)
  place_more w = ap (λ x. plain_before gs (suc w) + register_size starts i * x) (rank_more gs w) ∙ omega (arith, wire_length starts (length gs) i w (driver gs w))

module _ (starts : Bool) (gs : List Gate) where
  pub frame_length : (i : ℕ) → length (frame_clauses starts gs i) ≡ place gs (register_size starts i) (length gs)
  frame_length i = length_blocks (block starts gs i) (place gs (register_size starts i)) (place_none starts gs i) (place_more starts gs i) (length gs)

  frame_more : (i : ℕ) → frame_place starts gs (suc i) ≡ frame_place starts gs i + length (frame_clauses starts gs i)
  frame_more zero = omega (arith, frame_length 0)
  frame_more (suc i) = omega (arith, frame_length (suc i))

  pub frames_length : (n : ℕ) → length (across n (frame_clauses starts gs)) ≡ frame_place starts gs n
  frames_length n = length_blocks (frame_clauses starts gs) (frame_place starts gs) refl frame_more n

  pub nth_frames : (n i k : ℕ) → i < n → frame_place starts gs i ≤ k → k < frame_place starts gs (suc i) → slice_get (across n (frame_clauses starts gs)) k ≡ slice_get (frame_clauses starts gs i) (k - frame_place starts gs i)
  nth_frames n i k = nth_blocks (frame_clauses starts gs) (frame_place starts gs) refl frame_more n i k

  -- the code's way to a wire
  wire_here : (n i k w at : ℕ) (g : Gate) (o : Option Clause) → w < length gs → place gs (register_size starts i) w ≤ k → k < place gs (register_size starts i) (w + 1) → drive g ≡ driver gs w → at ≡ place gs (register_size starts i) w → n ≡ length gs → o ≡ slice_get (apart n i w ∷ driven starts n i w (drive g)) (k - at) → o ≡ slice_get (frame_clauses starts gs i) k
  wire_here n i k w at g o l low b who here z said =
      let high = subst (λ x. k < place gs (register_size starts i) x) (add-one w) b in
      said
      ∙ (ap (λ x. slice_get (apart x i w ∷ driven starts x i w (drive g)) (k - at)) z
      ∙ (ap (λ x. slice_get (apart (length gs) i w ∷ driven starts (length gs) i w (drive g)) (k - x)) here
      ∙ (ap (λ x. slice_get (apart (length gs) i w ∷ driven starts (length gs) i w x) (k - place gs (register_size starts i) w)) who
      ∙ sym (nth_blocks (block starts gs i) (place gs (register_size starts i)) (place_none starts gs i) (place_more starts gs i) (length gs) w k l low high))))

  pub turn_wire : (n i k w at : ℕ) (g : Gate) (o : Option Clause) (b : Bool) (j : ℕ) → b ≡ starts → j ≡ i → w < length gs → place gs (register_size starts i) w ≤ k → k < place gs (register_size starts i) (w + 1) → drive g ≡ driver gs w → at ≡ place gs (register_size starts i) w → n ≡ length gs → o ≡ slice_get (apart n j w ∷ driven b n j w (drive g)) (k - at) → o ≡ slice_get (frame_clauses starts gs i) k
  turn_wire n i k w at g o b j bs ji l low high who m z said =
      wire_here n i k w at g o l low high who m z
      (said ∙ (ap (λ y. slice_get (apart n j w ∷ driven y n j w (drive g)) (k - at)) bs ∙ ap (λ y. slice_get (apart n y w ∷ driven starts n y w (drive g)) (k - at)) ji))

  -- the code's two ways to a frame
  pub turn_first : (n k first : ℕ) (o : Option (Clause)) → first ≡ place gs (register_size starts 0) (length gs) → k < first → k < frame_place starts gs n → o ≡ slice_get (frame_clauses starts gs 0) k → o ≡ slice_get (across n (frame_clauses starts gs)) k
  turn_first zero k first o f l h said = absurd (omega arith)
  turn_first (suc n) k first o f l h said =
      said ∙ (ap (slice_get (frame_clauses starts gs 0)) (omega arith) ∙ sym (nth_frames (suc n) 0 k (omega arith) (omega arith) (omega (arith, f))))

  later_some : 0 < length gs → 0 < place gs 4 (length gs)
  later_some h = omega (arith, two_each gs (length gs))

  pub size_later : (q : ℕ) → register_size starts (1 + q) ≡ 4
  size_later q = ap (register_size starts) (one-add q)

  pub later_in : (n k first later : ℕ) → 0 < length gs → first ≡ place gs (register_size starts 0) (length gs) → later ≡ place gs 4 (length gs) → first ≤ k → k < frame_place starts gs n → (1 + (k - first) / later < n) × ((k - first) % later < later) × (0 < later)
  later_in zero k first later s f g a h = absurd (omega arith)
  later_in (suc n) k first later s f g a h =
      let some : 0 < later = subst (λ x. 0 < x) (sym g) (later_some s) in
      let top : k < first + n * later = subst (λ x. k < x + n * later) (sym f) (subst (λ x. k < place gs (register_size starts 0) (length gs) + n * x) (sym g) h) in
      (omega (arith, (div-lt_iff_lt-mul {x = k - first} {y = n} some).1 (omega arith)), mod-lt (k - first) some, some)

  pub turn_later : (n k first later : ℕ) (o : Option (Clause)) → 0 < length gs → first ≡ place gs (register_size starts 0) (length gs) → later ≡ place gs 4 (length gs) → first ≤ k → k < frame_place starts gs n → o ≡ slice_get (frame_clauses starts gs (1 + (k - first) / later)) ((k - first) % later) → o ≡ slice_get (across n (frame_clauses starts gs)) k
  turn_later n k first later o s f g a h said =
      let q = (k - first) / later in
      let fact = later_in n k first later s f g a h in
      let whole = div-add-mod (k - first) later in
      let start : frame_place starts gs (suc q) ≡ first + q * later = cc (f, g) in
      let stop : frame_place starts gs (suc (suc q)) ≡ first + suc q * later = cc (f, g) in
      said
      ∙ (ap (λ i. slice_get (frame_clauses starts gs i) ((k - first) % later)) (one-add q)
      ∙ (ap (slice_get (frame_clauses starts gs (suc q))) (rest q _ start fact whole)
      ∙ sym (nth_frames n (suc q) k (omega (arith, fact.0)) (low q _ start fact whole) (high q _ stop fact whole))))
    where
      rest : (q x : ℕ) → x ≡ first + q * later → (1 + q < n) × ((k - first) % later < later) × (0 < later) → later * q + (k - first) % later ≡ k - first → (k - first) % later ≡ k - x
      rest q x s f w = omega arith

      low : (q x : ℕ) → x ≡ first + q * later → (1 + q < n) × ((k - first) % later < later) × (0 < later) → later * q + (k - first) % later ≡ k - first → x ≤ k
      low q x s f w = omega arith

      high : (q x : ℕ) → x ≡ first + suc q * later → (1 + q < n) × ((k - first) % later < later) × (0 < later) → later * q + (k - first) % later ≡ k - first → k < x
      high q x s f w = omega arith

  pub size_is : (n first later : ℕ) → first ≡ place gs (register_size starts 0) (length gs) → later ≡ place gs 4 (length gs) → (n ≡ 0 → ⊥) → first + (n - 1) * later ≡ frame_place starts gs n
  size_is zero first later f g h = absurd (h refl)
  size_is (suc n) first later f g h = (let e : suc n - 1 ≡ n = omega arith in ap (λ x. first + x * later) e) ∙ cc (f, g)

-- at the last wire
pub at_end : (gs : List Gate) (c m f : ℕ) → m ≡ length gs → f ≡ place gs c m → f ≡ place gs c (length gs)
at_end gs c m f z h = h ∙ ap (place gs c) z

-- what the code requires of its second way
pub frame_in : (starts : Bool) (gs : List Gate) (n k first later : ℕ) → 0 < length gs → first ≡ place gs (register_size starts 0) (length gs) → later ≡ place gs 4 (length gs) → first ≤ k → n ≤ 9 → k < frame_place starts gs n → (1 + (k - first) / later ≤ 8) × ((k - first) % later < place gs (register_size starts (1 + (k - first) / later)) (length gs))
frame_in starts gs n k first later s f g a b h =
    let fact = later_in starts gs n k first later s f g a h in
    (omega (arith, fact.0), subst (λ x. (k - first) % later < place gs x (length gs)) (sym (size_later starts gs ((k - first) / later))) (subst (λ x. (k - first) % later < x) g fact.1))
