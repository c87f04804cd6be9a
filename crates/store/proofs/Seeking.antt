-- The steps of the search for a number's place, and what the entry there says.
use Rattle.std.proofs.Common.{◌≡◌, ℕ, zero, suc, ◌+◌, ◌-◌, ◌<◌, ◌≤◌, Bool, true, false, eqb, ltb, List, [], ◌∷◌, length, get_or, take, drop, ℤ, is_some, Some, None, Option, Result, Ok, Err, cond, sym, refl, ap, ◌∙◌, arith}
use denote.Bor.{Bor}
use Rattle.std.specs.List.{slice_get, slice_range}
use Rattle.std.specs.Option.{MatchOption, option_map}
use Rattle.std.specs.List.Sorted.{IsNonDecreasingBy, IsSearchInRange, IsBinarySearchResult}
use Rattle.std.specs.Ordering.{nat_cmp, ordering_index}
use Rattle.std.proofs.lemmas.Cmp.{ranked}
use Rattle.std.proofs.lemmas.Bool.Decides.{nat_tests}
use Rattle.std.proofs.lemmas.Bool.{cond-true, cond-false, eq-eqb, ne_eqb, ltb-true, ltb-false, lt-ltb}
use Rattle.std.proofs.lemmas.List.{length-drop, length-take-le}
use Rattle.std.proofs.lemmas.List.Sums.{prefix_len_passes}
use Rattle.std.proofs.lemmas.Option.{slice_get-get_or, slice_get_past, slice_get_within, get_or_from_slice_get}
use Rattle.clauses.specs.Clauses.{Clause, length_of, clause_literal}
use Rattle.shelf.specs.Lines.{Lines, Rising, find}
use Rattle.store.specs.declared.entry.Entry.{Entry}
use Rattle.store.specs.Rows.{cut, packed, rises, place, stands, spot, seat}
use Rattle.store.proofs.Places.{rising_from_rises, place_within, place_above, place_below, stands_within, stands_place, find_stands, find_none, found_stands}
use Rattle.store.proofs.Cuts.{length_cut, cut_number, cut_read, entry_ends}

number_test : (es : List Entry) (row : List ℤ) (n i : ℕ) (d : Entry) → i < length es → ltb (get_or es i d).number n ≡ ltb (get_or (cut es row) i (0, [])).0 n
number_test es row n i d h = ap (λ k. ltb k n) (sym (cut_number es row i d (0, []) h))

seek_on : (es : List Entry) (row : List ℤ) (n i : ℕ) (d : Entry) → rises (cut es row) ≡ true → i < length es → ltb (get_or es i d).number n ≡ true → i < place n (cut es row)
seek_on es row n i d r h less =
    let test = number_test es row n i d h in
    place_above n i (cut es row) (0, []) (rising_from_rises (cut es row) r) (omega (arith, length_cut es row)) (ltb-true (get_or (cut es row) i (0, [])).0 n (sym test ∙ less))

-- The numbers of the entries rise, and so do their comparisons with a number, as a search by halves asks.
numbers_rise : (es : List Entry) (row : List ℤ) (i j : ℕ) (d : Entry) → rises (cut es row) ≡ true → i ≤ j → j < length es
    → (get_or es i d).number ≤ (get_or es j d).number
numbers_rise es row i j d r le h =
    let n = (get_or es j d).number + 1 in
    let far = seek_on es row n j d r h (lt-ltb (get_or es j d).number n (omega arith)) in
    let less = ltb-true (get_or es i d).number n (number_test es row n i d (omega arith) ∙ prefix_len_passes (λ x. ltb x.0 n) (cut es row) i (0, []) (omega arith)) in
    omega arith

comparisons_rise : (es : List Entry) (row : List ℤ) (n : ℕ) → rises (cut es row) ≡ true → IsNonDecreasingBy (λ (e : Entry). ordering_index (nat_cmp e.number n)) es
comparisons_rise es row n r i j d le h = let rise = numbers_rise es row i j d r le h in grind (arith, nat_tests)

-- where the smaller numbers end
place_is : (es : List Entry) (row : List ℤ) (n i : ℕ) → rises (cut es row) ≡ true → i ≤ length es → ((k : ℕ) (d : Entry) → k < i → (get_or es k d).number < n)
    → ((d : Entry) → i < length es → n ≤ (get_or es i d).number) → i ≡ place n (cut es row)
place_is es row n i r h below above =
    let after : place n (cut es row) ≤ i = back (ltb i (length es)) refl in
    let before : i ≤ place n (cut es row) = front i h below in
    omega arith
  where
    d : Entry
    d = record { number = 0; start = 0; length = 0 }

    front : (i : ℕ) → i ≤ length es → ((k : ℕ) (d : Entry) → k < i → (get_or es k d).number < n) → i ≤ place n (cut es row)
    front zero h all = omega arith
    front (suc k) h all = let on = seek_on es row n k d r (omega arith) (lt-ltb (get_or es k d).number n (all k d (omega arith))) in omega arith

    back : (b : Bool) → ltb i (length es) ≡ b → place n (cut es row) ≤ i
    back true e =
        let inside = ltb-true i (length es) e in
        place_below n i (cut es row) (0, []) (omega (arith, length_cut es row)) (omega (arith, cut_number es row i d (0, []) inside, above d inside))
    back false e = omega (arith, ltb-false i (length es) e, place_within n (cut es row), length_cut es row)

-- ---- what stands at a place

abbrev pub entry_named : ℕ → Option Entry → Bool
entry_named n None = false
entry_named n (Some e) = eqb e.number n

pub stands_is : (es : List Entry) (row : List ℤ) (n i : ℕ) → stands n i (cut es row) ≡ entry_named n (slice_get es i)
stands_is [] row n i = refl
stands_is (e ∷ es) row n zero = refl
stands_is (e ∷ es) row n (suc i) = stands_is es (drop e.length row) n i

-- ---- what a search answers

seat_ok : (n i : ℕ) (xs : Lines) → Rising xs → stands n i xs ≡ true → Ok i ≡ seat n xs
seat_ok n i xs r s =
    sym (cond-true (is_some (find xs n)) (Ok (place n xs)) (Err (place n xs)) (ap is_some (find_stands n i xs (0, []) r s)) ∙ ap Ok (stands_place n i xs r s))

seat_err : (n i : ℕ) (xs : Lines) → Rising xs → i ≡ place n xs → stands n i xs ≡ false → Err i ≡ seat n xs
seat_err n i xs r is s =
    let none = find_none n xs r (ap (λ k. stands n k xs) (sym is) ∙ s) in
    ap Err is ∙ sym (cond-false (is_some (find xs n)) (Ok (place n xs)) (Err (place n xs)) (ap is_some none))

-- where an entry stands, and past the last
stands_here : (es : List Entry) (row : List ℤ) (n i : ℕ) (d : Entry) → i < length es → stands n i (cut es row) ≡ eqb (get_or es i d).number n
stands_here es row n i d h = stands_is es row n i ∙ ap (entry_named n) (slice_get-get_or es i d h)

stands_past : (es : List Entry) (row : List ℤ) (n i : ℕ) → length es ≤ i → stands n i (cut es row) ≡ false
stands_past es row n i h = stands_is es row n i ∙ ap (entry_named n) (slice_get_past es i h)

pub seek_last : (es : List Entry) (row : List ℤ) (n : ℕ) (e : Entry) → rises (cut es row) ≡ true → Some e ≡ slice_get es (length es - 1) → e.number < n
    → Err (length es) ≡ seat n (cut es row)
seek_last es row n e r is less =
    let inside = slice_get_within es (length es - 1) e (sym is) in
    let here = ap (λ x. x.number) (get_or_from_slice_get es (length es - 1) e e (sym is)) in
    let on = seek_on es row n (length es - 1) e r inside (lt-ltb (get_or es (length es - 1) e).number n (omega arith)) in
    seat_err n (length es) (cut es row) (rising_from_rises (cut es row) r) (omega (arith, place_within n (cut es row), length_cut es row)) (
    stands_past es row n (length es) (omega arith)
    )

pub seek_found : (es : List Entry) (row : List ℤ) (n : ℕ) (r : Result ℕ ℕ) → rises (cut es row) ≡ true → IsSearchInRange r (length es)
    → IsBinarySearchResult (λ (e : Entry). nat_cmp e.number n) es r → r ≡ seat n (cut es row)
seek_found es row n (Ok i) r h equal =
    let d : Entry = record { number = 0; start = 0; length = 0 } in
    let same : (get_or es i d).number ≡ n = ranked _ n _ (sym (equal d)) in
    seat_ok n i (cut es row) (rising_from_rises (cut es row) r) (stands_here es row n i d h ∙ eq-eqb (get_or es i d).number n same)
seek_found es row n (Err i) r h parted =
    let parts = parted (comparisons_rise es row n r) in
    let above : (d : Entry) → i < length es → n < (get_or es i d).number = λ d inside. ranked _ n _ (sym (parts.1 i d (omega arith) inside)) in
    seat_err n i (cut es row) (rising_from_rises (cut es row) r) (
    place_is es row n i r h (λ k d l. ranked _ n _ (sym (parts.0 k d (omega arith) l))) (λ d inside. omega (arith, above d inside))
    ) (free (ltb i (length es)) refl above)
  where
    free : (b : Bool) → ltb i (length es) ≡ b → ((d : Entry) → i < length es → n < (get_or es i d).number) → stands n i (cut es row) ≡ false
    free true e above =
        let d : Entry = record { number = 0; start = 0; length = 0 } in
        let inside = ltb-true i (length es) e in
        stands_here es row n i d inside ∙ ne_eqb (get_or es i d).number n (λ s. omega (arith, above d inside))
    free false e above = stands_past es row n i (ltb-false i (length es) e)

-- what the answer says of the number's line
pub seat_none : (n i : ℕ) (xs : Lines) → Err i ≡ seat n xs → (i ≡ place n xs) × (find xs n ≡ None)
seat_none n i xs = go (find xs n) refl
  where
    go : (o : Option Clause) → find xs n ≡ o → Err i ≡ cond (is_some o) (Ok (place n xs)) (Err (place n xs)) → (i ≡ place n xs) × (find xs n ≡ None)
    go None f e = (cc, f)
    go (Some c) f e = absurd (cc)

-- an element that was asked for by its place
pub got : {X : Type 0} (es ws : List X) (i : ℕ) (o : Option (Bor X)) → ws ≡ es
    → MatchOption o (length ws ≤ i) (λ x. (i < length ws) × ((d : X) → x.now ≡ get_or ws i d)) → slice_get es i ≡ option_map (λ x. x.now) o
got es ws i None w past = slice_get_past es i (omega (arith, ap length w))
got es ws i (Some x) w h =
    slice_get-get_or es i x.now (omega (arith, ap length w, h.0)) ∙ ap Some (sym (h.1 x.now ∙ ap (λ zs. get_or zs i x.now) w))

-- ---- what is found

pub spot_within : (es : List Entry) (row : List ℤ) (n i : ℕ) → rises (cut es row) ≡ true → spot n (cut es row) ≡ Some i → i < length es
spot_within es row n i r s =
    omega (arith, stands_within n i (cut es row) (found_stands n i (cut es row) (rising_from_rises (cut es row) r) s), length_cut es row)

pub spot_line : (es : List Entry) (row : List ℤ) (n i : ℕ) (e : Entry) → rises (cut es row) ≡ true → packed 0 es (length row) ≡ true
    → spot n (cut es row) ≡ Some i → e ≡ get_or es i e → find (cut es row) n ≡ Some (take e.length (drop e.start row))
spot_line es row n i e r p s is =
    let rising = rising_from_rises (cut es row) r in
    let line = cut_read es row (length row) i e (0, []) p (spot_within es row n i r s) in
    find_stands n i (cut es row) (0, []) rising (found_stands n i (cut es row) rising s)
    ∙ ap (λ x. Some x.1) line ∙ ap (λ f. Some (take f.length (drop f.start row))) (sym is)

pub spot_ends : (es : List Entry) (row : List ℤ) (n i : ℕ) (e : Entry) → rises (cut es row) ≡ true → packed 0 es (length row) ≡ true
    → spot n (cut es row) ≡ Some i → e ≡ get_or es i e → e.start + e.length ≤ length row
spot_ends es row n i e r p s is =
    let ends = entry_ends es 0 (length row) i e p (spot_within es row n i r s) in
    omega (arith, ends.0, ap (λ f. f.start + f.length) is)

pub spot_length : (es : List Entry) (row : List ℤ) (n i : ℕ) (e : Entry) → rises (cut es row) ≡ true → packed 0 es (length row) ≡ true
    → spot n (cut es row) ≡ Some i → e ≡ get_or es i e → Some e.length ≡ length_of (find (cut es row) n)
spot_length es row n i e r p s is =
    let ends = spot_ends es row n i e r p s is in
    let long : e.length ≤ length (drop e.start row) = omega (arith, length-drop e.start row) in
    sym (ap length_of (spot_line es row n i e r p s is) ∙ ap Some (length-take-le e.length (drop e.start row) long))

pub spot_literal : (es : List Entry) (row : List ℤ) (n i at : ℕ) (e : Entry) → rises (cut es row) ≡ true → packed 0 es (length row) ≡ true
    → spot n (cut es row) ≡ Some i → e ≡ get_or es i e → slice_get (slice_range row e.start (e.start + e.length)) at ≡ clause_literal (find (cut es row) n) at
spot_literal es row n i at e r p s is =
    let size : e.start + e.length - e.start ≡ e.length = omega arith in
    ap (λ k. slice_get (take k (drop e.start row)) at) size ∙ ap (λ o. clause_literal o at) (sym (spot_line es row n i e r p s is))
