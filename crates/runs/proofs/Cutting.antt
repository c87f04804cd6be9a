-- Rows of w elements each, one after the other.
use Rattle.std.proofs.Common.{◌≡◌, ℕ, zero, suc, ◌+◌, ◌-◌, ◌*◌, ◌%◌, ◌<◌, ◌≤◌, List, [], ◌∷◌, ◌++◌, map, length, get_or, take, drop, slice_get, Some, sym, refl, ap, ◌∙◌, suc-mul, zero-mul, arith}
use Rattle.std.specs.List.{flat_map, AllByRecursion as AllOf}
use Rattle.std.proofs.Math.Nat.{mul-mod_left}
use Rattle.std.proofs.lemmas.List.{nil_from_length, length-take-le, length-drop, length-append, length-map, map-append, take-append-drop, take-append-le, take_all, take-map, drop-append-le, drop-map, drop-drop}
use Rattle.std.proofs.lemmas.Option.{slice_get-get_or}
use Rattle.runs.specs.Tables.{cut}

-- where a length is no multiple of the width, no rows have it
pub no_multiple : (w size : ℕ) → (size % w ≡ 0 → ⊥) → (c : ℕ) → size ≡ c * w → ⊥
no_multiple w size odd c e = odd (ap (λ n. n % w) e ∙ mul-mod_left c w)

module _ {X : Type 0} (w : ℕ) where
  pub length_cut : (c : ℕ) (xs : List X) → length (cut w c xs) ≡ c
  length_cut zero xs = refl
  length_cut (suc c) xs = ap suc (length_cut c (drop w xs))

  rest_length : (c : ℕ) (xs : List X) → length xs ≡ suc c * w → length (drop w xs) ≡ c * w
  rest_length c xs e = omega (arith, length-drop w xs, suc-mul c w)

  pub cut_rows : (c : ℕ) (xs : List X) → length xs ≡ c * w → AllOf (λ row. length row ≡ w) (cut w c xs)
  cut_rows zero xs e = tt
  cut_rows (suc c) xs e = (length-take-le w xs (omega (arith, suc-mul c w)), cut_rows c (drop w xs) (rest_length c xs e))

  -- row k
  pub cut_row : (c k : ℕ) (xs : List X) → k < c → get_or (cut w c xs) k [] ≡ take w (drop (k * w) xs)
  cut_row zero k xs l = let none : ⊥ = omega arith in absurd none
  cut_row (suc c) zero xs l = sym (ap (λ n. take w (drop n xs)) (zero-mul w))
  cut_row (suc c) (suc k) xs l =
      let past : w + k * w ≡ suc k * w = omega (arith, suc-mul k w) in
      cut_row c k (drop w xs) (omega arith) ∙ ap (take w) (drop-drop (k * w) w xs ∙ ap (λ n. drop n xs) past)

  -- one more row
  pub cut_more : (k : ℕ) (xs row : List X) → length xs ≡ k * w → length row ≡ w → cut w (suc k) (xs ++ row) ≡ cut w k xs ++ row ∷ []
  cut_more zero xs row e size =
      let none : xs ≡ [] = nil_from_length xs (e ∙ zero-mul w) in
      ap (λ ys. take w (ys ++ row) ∷ []) none ∙ ap (λ ys. ys ∷ []) (take_all w row (omega arith))
  cut_more (suc k) xs row e size =
      let fits : w ≤ length xs = omega (arith, suc-mul k w) in
      ap (λ ys. ys ∷ cut w (suc k) (drop w (xs ++ row))) (take-append-le w xs row fits)
      ∙ ap (λ ys. take w xs ∷ cut w (suc k) ys) (drop-append-le w xs row fits)
      ∙ ap (λ ys. take w xs ∷ ys) (cut_more k (drop w xs) row (rest_length k xs e) size)

  -- the last row
  pub cut_last : (c j : ℕ) (xs : List X) → length xs ≡ c * w → c ≡ suc j → Some (take (length xs - j * w) (drop (j * w) xs)) ≡ slice_get (cut w c xs) (length (cut w c xs) - 1)
  cut_last c j xs e next =
      let all = length_cut c xs in
      let last : length (cut w c xs) - 1 ≡ j = omega (arith, all) in
      let inner : length xs ≡ suc j * w = e ∙ ap (λ n. n * w) next in
      let size : length xs - j * w ≡ w = omega (arith, suc-mul j w) in
      ap (λ n. Some (take n (drop (j * w) xs))) size ∙ ap Some (sym (cut_row c j xs (omega arith)))
      ∙ sym (slice_get-get_or (cut w c xs) j [] (omega (arith, all))) ∙ ap (slice_get (cut w c xs)) (sym last)

  module _ {Y : Type 0} (f : X → Y) where
    pub cut_map : (c : ℕ) (xs : List X) → cut w c (map f xs) ≡ map (map f) (cut w c xs)
    cut_map zero xs = refl
    cut_map (suc c) xs =
        ap (λ ys. ys ∷ cut w c (drop w (map f xs))) (take-map f w xs) ∙ ap (λ ys. map f (take w xs) ∷ cut w c ys) (drop-map f w xs)
        ∙ ap (λ ys. map f (take w xs) ∷ ys) (cut_map c (drop w xs))

    pub joined_cut : (c : ℕ) (xs : List X) → length xs ≡ c * w → flat_map (map f) (cut w c xs) ≡ map f xs
    joined_cut zero xs e = sym (ap (map f) (nil_from_length xs (e ∙ zero-mul w)))
    joined_cut (suc c) xs e =
        ap (λ ys. map f (take w xs) ++ ys) (joined_cut c (drop w xs) (rest_length c xs e)) ∙ sym (map-append f (take w xs) (drop w xs))
        ∙ ap (map f) (take-append-drop w xs)

    pub length_joined : (rows : List (List X)) → AllOf (λ row. length row ≡ w) rows → length (flat_map (map f) rows) ≡ length rows * w
    length_joined [] h = sym (zero-mul w)
    length_joined (row ∷ rows) h =
        length-append (map f row) (flat_map (map f) rows) ∙ omega (arith, length-map row f, h.0, length_joined rows h.1, suc-mul (length rows) w)

pub map_joined : {X Y : Type 0} (f : X → Y) (rows : List (List X)) → map f (flat_map (λ row. row) rows) ≡ flat_map (map f) rows
map_joined f [] = refl
map_joined f (row ∷ rows) = map-append f row (flat_map (λ r. r) rows) ∙ ap (λ ys. map f row ++ ys) (map_joined f rows)
