-- Where a line stands among lines whose numbers rise, and what is added, found and removed there.
use Rattle.std.proofs.Common.{◌≡◌, ℕ, zero, suc, ◌+◌, ◌<◌, ◌≤◌, Bool, true, false, cond, eqb, ltb, [], ◌∷◌, length, get_or, is_some, Some, None, Option, sym, refl, ap, ◌∙◌, arith}
use Rattle.std.specs.List.{insert as inserted, remove as removed, AllByRecursion as AllOf, list_all}
use Rattle.std.proofs.ByRecursion.{All-get_or, All-weaker}
use Rattle.std.proofs.lemmas.Bool.{eqb-true, eqb-false, ltb-true, ltb-false, lt-ltb, le-ltb, eq-eqb, ne_eqb, and_parts, and_from, both_ways, cond-true, cond-false}
use Rattle.clauses.specs.Clauses.{Clause}
use Rattle.shelf.specs.Lines.{Lines, Rising, find, insert, remove}
use Rattle.std.proofs.lemmas.Option.{none-some}
use Rattle.shelf.proofs.Lines.{find_below, remove_none}
use Rattle.store.specs.Rows.{rises, place, stands, spot}

-- ---- the test for rising numbers

all_from_pass : (n : ℕ) (xs : Lines) → list_all (λ y. ltb n y.0) xs ≡ true → AllOf (λ y. n < y.0) xs
all_from_pass n [] e = tt
all_from_pass n (x ∷ xs) e =
    let p = and_parts (ltb n x.0) (list_all (λ y. ltb n y.0) xs) e in (ltb-true n x.0 p.0, all_from_pass n xs p.1)

pass_from_all : (n : ℕ) (xs : Lines) → AllOf (λ y. n < y.0) xs → list_all (λ y. ltb n y.0) xs ≡ true
pass_from_all n [] all = refl
pass_from_all n (x ∷ xs) all =
    and_from (ltb n x.0) (list_all (λ y. ltb n y.0) xs) (lt-ltb n x.0 all.0) (pass_from_all n xs all.1)

pub rising_from_rises : (xs : Lines) → rises xs ≡ true → Rising xs
rising_from_rises [] e = tt
rising_from_rises (x ∷ xs) e =
    let p = and_parts (list_all (λ y. ltb x.0 y.0) xs) (rises xs) e in (all_from_pass x.0 xs p.0, rising_from_rises xs p.1)

pub rises_from_rising : (xs : Lines) → Rising xs → rises xs ≡ true
rises_from_rising [] r = refl
rises_from_rising (x ∷ xs) r =
    and_from (list_all (λ y. ltb x.0 y.0) xs) (rises xs) (pass_from_all x.0 xs r.0) (rises_from_rising xs r.1)

-- ---- how far the place is

pub place_within : (n : ℕ) (xs : Lines) → place n xs ≤ length xs
place_within n [] = omega arith
place_within n (x ∷ xs) = go (ltb x.0 n) (place_within n xs)
  where
    go : (b : Bool) → place n xs ≤ length xs → cond b (1 + place n xs) 0 ≤ suc (length xs)
    go true h = omega arith
    go false h = omega arith

-- what has a smaller number stands before the place
pub place_above : (n k : ℕ) (xs : Lines) (d : ℕ × Clause) → Rising xs → k < length xs → (get_or xs k d).0 < n → k < place n xs
place_above n k [] d r h less = absurd (omega arith)
place_above n zero (x ∷ xs) d r h less = go (ltb x.0 n) refl
  where
    go : (b : Bool) → ltb x.0 n ≡ b → 0 < cond b (1 + place n xs) 0
    go true e = omega arith
    go false e = absurd (omega (arith, ltb-false x.0 n e))
place_above n (suc k) (x ∷ xs) d r h less = go (ltb x.0 n) refl (place_above n k xs d r.1 (omega arith) less)
  where
    go : (b : Bool) → ltb x.0 n ≡ b → k < place n xs → suc k < cond b (1 + place n xs) 0
    go true e later = omega arith
    go false e later =
        let first = All-get_or (λ y. x.0 < y.0) xs k d (omega arith) r.0 in absurd (omega (arith, ltb-false x.0 n e))

-- and what has no smaller number does not
pub place_below : (n k : ℕ) (xs : Lines) (d : ℕ × Clause) → k < length xs → n ≤ (get_or xs k d).0 → place n xs ≤ k
place_below n k [] d h more = absurd (omega arith)
place_below n zero (x ∷ xs) d h more = go (ltb x.0 n) refl
  where
    go : (b : Bool) → ltb x.0 n ≡ b → cond b (1 + place n xs) 0 ≤ 0
    go true e = absurd (omega (arith, ltb-true x.0 n e))
    go false e = omega arith
place_below n (suc k) (x ∷ xs) d h more = go (ltb x.0 n) (place_below n k xs d (omega arith) more)
  where
    go : (b : Bool) → place n xs ≤ k → cond b (1 + place n xs) 0 ≤ suc k
    go true later = omega arith
    go false later = omega arith

-- ---- whether a line of the number stands at a place

-- what stands in the rest has a number above the first
above_first : (n a i : ℕ) (xs : Lines) → AllOf (λ y. a < y.0) xs → stands n i xs ≡ true → a < n
above_first n a i [] all s = absurd (both_ways false refl s)
above_first n a zero (x ∷ xs) all s = let same = eqb-true x.0 n s in omega (arith, all.0)
above_first n a (suc i) (x ∷ xs) all s = above_first n a i xs all.1 s

pub stands_within : (n i : ℕ) (xs : Lines) → stands n i xs ≡ true → i < length xs
stands_within n i [] s = absurd (both_ways false refl s)
stands_within n zero (x ∷ xs) s = omega arith
stands_within n (suc i) (x ∷ xs) s = let later = stands_within n i xs s in omega arith

pub stands_place : (n i : ℕ) (xs : Lines) → Rising xs → stands n i xs ≡ true → place n xs ≡ i
stands_place n i [] r s = absurd (both_ways false refl s)
stands_place n zero (x ∷ xs) r s = let same = eqb-true x.0 n s in cond-false (ltb x.0 n) (1 + place n xs) 0 (le-ltb x.0 n (omega arith))
stands_place n (suc i) (x ∷ xs) r s =
    let first = above_first n x.0 i xs r.0 s in
    cond-true (ltb x.0 n) (1 + place n xs) 0 (lt-ltb x.0 n first) ∙ ap (λ k. 1 + k) (stands_place n i xs r.1 s) ∙ (omega arith)

-- its clause is the one found
pub find_stands : (n i : ℕ) (xs : Lines) (d : ℕ × Clause) → Rising xs → stands n i xs ≡ true → find xs n ≡ Some (get_or xs i d).1
find_stands n i [] d r s = absurd (both_ways false refl s)
find_stands n zero (x ∷ xs) d r s =
    let same = eqb-true x.0 n s in cond-true (eqb n x.0) (Some x.1) (find xs n) (eq-eqb n x.0 (sym same))
find_stands n (suc i) (x ∷ xs) d r s =
    let first = above_first n x.0 i xs r.0 s in
    cond-false (eqb n x.0) (Some x.1) (find xs n) (ne_eqb n x.0 (λ e. omega arith)) ∙ find_stands n i xs d r.1 s

-- and where none stands at the number's place, none is found
pub find_none : (n : ℕ) (xs : Lines) → Rising xs → stands n (place n xs) xs ≡ false → find xs n ≡ None
find_none n [] r s = refl
find_none n (x ∷ xs) r s = go (ltb x.0 n) refl (λ t. find_none n xs r.1 t) s
  where
    go : (b : Bool) → ltb x.0 n ≡ b → (stands n (place n xs) xs ≡ false → find xs n ≡ None)
        → stands n (cond b (1 + place n xs) 0) (x ∷ xs) ≡ false → find (x ∷ xs) n ≡ None
    go true e later s =
        let less = ltb-true x.0 n e in
        let next : suc (place n xs) ≡ 1 + place n xs = omega arith in
        let s' : stands n (suc (place n xs)) (x ∷ xs) ≡ false = ap (λ k. stands n k (x ∷ xs)) next ∙ s in
        cond-false (eqb n x.0) (Some x.1) (find xs n) (ne_eqb n x.0 (λ e. omega arith)) ∙ later s'
    go false e later s =
        let more = ltb-false x.0 n e in
        let other = eqb-false x.0 n s in
        cond-false (eqb n x.0) (Some x.1) (find xs n) (ne_eqb n x.0 (λ e. other (sym e)))
        ∙ find_below n xs (All-weaker (λ y. x.0 < y.0) (λ y. n < y.0) (λ y h. omega arith) xs r.0)

-- ---- the place as an answer

pub spot_some : (n i : ℕ) (xs : Lines) → Rising xs → stands n i xs ≡ true → spot n xs ≡ Some i
spot_some n i xs r s =
    cond-true (is_some (find xs n)) (Some (place n xs)) None (ap is_some (find_stands n i xs (0, []) r s)) ∙ ap Some (stands_place n i xs r s)

pub spot_none : (n : ℕ) (xs : Lines) → Rising xs → stands n (place n xs) xs ≡ false → spot n xs ≡ None
spot_none n xs r s = cond-false (is_some (find xs n)) (Some (place n xs)) None (ap is_some (find_none n xs r s))

pub found_stands : (n i : ℕ) (xs : Lines) → Rising xs → spot n xs ≡ Some i → stands n i xs ≡ true
found_stands n i xs r e = go (stands n (place n xs) xs) refl
  where
    go : (b : Bool) → stands n (place n xs) xs ≡ b → stands n i xs ≡ true
    go true s = let same : ◌≡◌ {A = Option ℕ} (Some i) (Some (place n xs)) = sym e ∙ spot_some n (place n xs) xs r s in
        let here : i ≡ place n xs = cc in ap (λ k. stands n k xs) here ∙ s
    go false s = absurd (none-some i (sym (spot_none n xs r s) ∙ e))

pub none_found : (n : ℕ) (xs : Lines) → spot n xs ≡ None → find xs n ≡ None
none_found n xs e = go (find xs n) e
  where
    go : (o : Option Clause) → cond (is_some o) (Some (place n xs)) None ≡ None → o ≡ None
    go None e = refl
    go (Some c) e = absurd (none-some (place n xs) (sym e))

-- ---- adding and removing there

pub insert_place : (n : ℕ) (c : Clause) (xs : Lines) → find xs n ≡ None → insert n c xs ≡ inserted xs (place n xs) (n, c)
insert_place n c [] free = refl
insert_place n c (x ∷ xs) free = go (eqb n x.0) refl free (ltb x.0 n) refl (ltb n x.0) refl (insert_place n c xs)
  where
    go : (t : Bool) → eqb n x.0 ≡ t → cond t (Some x.1) (find xs n) ≡ None → (b : Bool) → ltb x.0 n ≡ b → (a : Bool) → ltb n x.0 ≡ a
        → (find xs n ≡ None → insert n c xs ≡ inserted xs (place n xs) (n, c))
        → cond a ((n, c) ∷ x ∷ xs) (x ∷ insert n c xs) ≡ inserted (x ∷ xs) (cond b (1 + place n xs) 0) (n, c)
    go true q f b e a g later = absurd (none-some x.1 (sym f))
    go false q f true e true g later = absurd (omega (arith, ltb-true x.0 n e, ltb-true n x.0 g))
    go false q f true e false g later =
        let next : suc (place n xs) ≡ 1 + place n xs = omega arith in
        ap (◌∷◌ x) (later f) ∙ ap (λ k. inserted (x ∷ xs) k (n, c)) next
    go false q f false e true g later = refl
    go false q f false e false g later = let other = eqb-false n x.0 q in absurd (omega (arith, ltb-false x.0 n e, ltb-false n x.0 g))

pub remove_stands : (n i : ℕ) (xs : Lines) → Rising xs → stands n i xs ≡ true → remove n xs ≡ removed xs i
remove_stands n i [] r s = absurd (both_ways false refl s)
remove_stands n zero (x ∷ xs) r s =
    let same = eqb-true x.0 n s in
    cond-true (eqb n x.0) (remove n xs) (x ∷ remove n xs) (eq-eqb n x.0 (sym same))
    ∙ remove_none n xs (find_below n xs (All-weaker (λ y. x.0 < y.0) (λ y. n < y.0) (λ y h. omega arith) xs r.0))
remove_stands n (suc i) (x ∷ xs) r s =
    let first = above_first n x.0 i xs r.0 s in
    cond-false (eqb n x.0) (remove n xs) (x ∷ remove n xs) (ne_eqb n x.0 (λ e. omega arith)) ∙ ap (◌∷◌ x) (remove_stands n i xs r.1 s)
