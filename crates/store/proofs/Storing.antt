-- What a store holds after a line was put in or taken out.
use Rattle.std.proofs.Common.{◌≡◌, ℕ, zero, suc, ◌+◌, ◌-◌, ◌<◌, ◌≤◌, Bool, true, cond, not, ◌&&◌, ltb, leb, List, [], ◌∷◌, ◌++◌, length, get_or, take, drop, ℤ, Some, None, sym, ap, ◌∙◌, ap₂, arith}
use Rattle.std.specs.List.{insert as inserted, remove as removed, AllByRecursion as AllOf}
use Rattle.std.proofs.lemmas.List.{length-append, length-take-le, length-drop}
use Rattle.std.proofs.ByRecursion.{All-append, All-take, All-drop}
use Rattle.std.proofs.lemmas.Bool.Decides.{nat_tests}
use Rattle.std.proofs.lemmas.Bool.{le-ltb, lt-ltb, le-leb, and_left, and_from}
use Rattle.clauses.specs.Clauses.{Clause}
use Rattle.shelf.specs.Lines.{Lines, Rising, find, insert, remove}
use Rattle.shelf.proofs.Lines.{rising_insert, remove_none}
use Rattle.store.specs.declared.entry.Entry.{Entry}
use Rattle.store.specs.declared.store.Store.{Store}
use Rattle.store.specs.Rows.{cut, lengths, packed, rises, place, spot, lined_up, literals_in}
use Rattle.store.specs.Stores.{lines_of, line_room, literal_room, fits}
use Rattle.store.proofs.Places.{rising_from_rises, rises_from_rising, stands_within, found_stands, none_found, insert_place, remove_stands}
use Rattle.store.proofs.Cuts.{cut_put_in, cut_taken_out, packed_behind, all_lengths, lengths_more, lengths_parts, lengths_within, entry_ends}

-- the parts of a store
pub record Sound (es : List Entry) (row : List ℤ) : Type 0 where
  pub rising : rises (cut es row) ≡ true
  pub tight : packed 0 es (length row) ≡ true

-- ---- put in

pub put_lines : (es fs : List Entry) (row next c : List ℤ) (at : ℕ) (e : Entry) → Sound es row
    → at ≡ place e.number (cut es row) → find (cut es row) e.number ≡ None → e.start ≡ lengths (take at es) → e.length ≡ length c
    → fs ≡ take at es ++ lined_up e.start (e ∷ drop at es) → next ≡ take e.start row ++ (c ++ drop e.start row)
    → cut fs next ≡ insert e.number c (cut es row)
put_lines es fs row next c at e s is free start len f r =
    let xs = cut es row in
    ap₂ cut f (r ∙ ap (λ k. take k row ++ (c ++ drop k row)) start)
    ∙ cut_put_in es row c at e.start e (lengths_within es at (length row) s.tight) len
    ∙ ap (λ k. inserted xs k (e.number, c)) is
    ∙ sym (insert_place e.number c xs free)

pub put_sound : (es fs : List Entry) (row next c : List ℤ) (at : ℕ) (e : Entry) → Sound es row
    → at ≡ place e.number (cut es row) → find (cut es row) e.number ≡ None → e.start ≡ lengths (take at es) → e.length ≡ length c
    → fs ≡ take at es ++ lined_up e.start (e ∷ drop at es) → next ≡ take e.start row ++ (c ++ drop e.start row)
    → Sound fs next
put_sound es fs row next c at e s is free start len f r =
    let xs = cut es row in
    let n = e.number in
    let within = lengths_within es at (length row) s.tight in
    let size : length next ≡ length row + e.length =
    ap length r ∙ (
    omega (
      arith,
      length-append (take e.start row) (c ++ drop e.start row),
      length-append c (drop e.start row),
      length-take-le e.start row (omega arith),
      length-drop e.start row,
    )
    ) in
    record {
      rising = ap rises (put_lines es fs row next c at e s is free start len f r)
          ∙ rises_from_rising (insert n c xs) (rising_insert n c xs free (rising_from_rises xs s.rising));
      tight = ap (λ zs. packed 0 zs (length next)) (f ∙ ap (λ k. take at es ++ lined_up k (e ∷ drop at es)) start)
          ∙ packed_behind es (e ∷ drop at es) at (length row) (length next) s.tight (omega (arith, lengths_parts es at, all_lengths es 0 (length row) s.tight));
    }

-- ---- taken out

all_removed : (a i : ℕ) (xs : Lines) → AllOf (λ y. a < y.0) xs → AllOf (λ y. a < y.0) (removed xs i)
all_removed a i xs all =
    let P : ℕ × Clause → Type 0 = λ y. a < y.0 in All-append P (take i xs) (drop (suc i) xs) (All-take P i xs all) (All-drop P (suc i) xs all)

rising_removed : (i : ℕ) (xs : Lines) → Rising xs → Rising (removed xs i)
rising_removed zero [] r = tt
rising_removed (suc i) [] r = tt
rising_removed zero (x ∷ xs) r = r.1
rising_removed (suc i) (x ∷ xs) r = (all_removed x.0 i xs r.0, rising_removed i xs r.1)

pub taken_lines : (es fs : List Entry) (row next : List ℤ) (at : ℕ) (e : Entry) → Sound es row → at < length es → e ≡ get_or es at e
    → fs ≡ take at es ++ lined_up e.start (drop (suc at) es) → next ≡ take e.start row ++ drop (e.start + e.length) row
    → cut fs next ≡ removed (cut es row) at
taken_lines es fs row next at e s h is f r =
    let start : e.start ≡ lengths (take at es) = omega (arith, ap (λ x. x.start) is, (entry_ends es 0 (length row) at e s.tight h).1) in
    let len : e.length ≡ (get_or es at e).length = ap (λ x. x.length) is in
    ap₂ cut f (r ∙ ap₂ (λ k l. take k row ++ drop (k + l) row) start len)
    ∙ cut_taken_out es row at e.start e h (lengths_within es at (length row) s.tight)

pub taken_sound : (es fs : List Entry) (row next : List ℤ) (at : ℕ) (e : Entry) → Sound es row → at < length es → e ≡ get_or es at e
    → fs ≡ take at es ++ lined_up e.start (drop (suc at) es) → next ≡ take e.start row ++ drop (e.start + e.length) row
    → Sound fs next
taken_sound es fs row next at e s h is f r =
    let xs = cut es row in
    let len : e.length ≡ (get_or es at e).length = ap (λ x. x.length) is in
    let ends = entry_ends es 0 (length row) at e s.tight h in
    let start : e.start ≡ lengths (take at es) = omega (arith, ap (λ x. x.start) is, ends.1) in
    let size : length next ≡ length row - (get_or es at e).length =
    ap length r ∙ (
    omega (
      arith,
      length-append (take e.start row) (drop (e.start + e.length) row),
      length-take-le e.start row (omega (arith, ends.0, ap (λ x. x.start) is)),
      length-drop (e.start + e.length) row,
      ap (λ x. x.start) is,
      ends.0,
    )
    ) in
    record {
      rising = ap rises (taken_lines es fs row next at e s h is f r) ∙ rises_from_rising (removed xs at) (rising_removed at xs (rising_from_rises xs s.rising));
      tight = ap (λ zs. packed 0 zs (length next)) (f ∙ ap (λ k. take at es ++ lined_up k (drop (suc at) es)) start)
          ∙ packed_behind es (drop (suc at) es) at (length row) (length next) s.tight (omega (arith, lengths_more es at e h, lengths_parts es (suc at), all_lengths es 0 (length row) s.tight));
    }

-- ---- what is struck

-- what stays where nothing is struck, and where something is
pub left_all : (n : ℕ) (xs ys : Lines) → None ≡ spot n xs → ys ≡ xs → ys ≡ remove n xs
left_all n xs ys s same = same ∙ sym (remove_none n xs (none_found n xs (sym s)))

pub left_others : (n at : ℕ) (xs ys zs : Lines) → rises xs ≡ true → Some at ≡ spot n xs → ys ≡ xs → zs ≡ removed ys at → zs ≡ remove n xs
left_others n at xs ys zs r s same gone =
    let rising = rising_from_rises xs r in
    gone ∙ ap (λ l. removed l at) same ∙ sym (remove_stands n at xs rising (found_stands n at xs rising (sym s)))

pub spot_inside : (n at : ℕ) (xs : Lines) → rises xs ≡ true → Some at ≡ spot n xs → at < length xs
spot_inside n at xs r s = stands_within n at xs (found_stands n at xs (rising_from_rises xs r) (sym s))

-- ---- whether there is room

pub room_is : (a b l k cap : ℕ) → a < b → l ≤ cap → leb k (cap - l) ≡ (ltb a b && leb (l + k) cap)
room_is a b l k cap h g = grind (arith, nat_tests)

pub no_room : (a b : ℕ) (t : Bool) → b ≤ a → ltb a b ≡ (ltb a b && t)
no_room a b t h = le-ltb a b h ∙ sym (and_left (ltb a b) t (le-ltb a b h))

-- where there is room by either of two tests, they decide alike
pub alike : {A : Type 0} (present a b : Bool) (x y : A) → a ≡ true → b ≡ true → cond (not present && a) x y ≡ cond (not present && b) x y
alike present a b x y p q = ap (λ t. cond (not present && t) x y) (p ∙ sym q)

pub fits_from : (s : Store) (k : ℕ) → length (lines_of s) < line_room s → literals_in (lines_of s) + k ≤ literal_room s → fits s k ≡ true
fits_from s k h g =
    let lines = length (lines_of s) in
    let literals = literals_in (lines_of s) + k in
    and_from (ltb lines (line_room s)) (leb literals (literal_room s)) (lt-ltb lines (line_room s) h) (le-leb literals (literal_room s) g)
