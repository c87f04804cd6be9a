-- The algebra of the lines kept.
use Rattle.std.proofs.Common.{◌≡◌, ℕ, ◌+◌, ◌<◌, ◌≤◌, Bool, true, false, cond, eqb, ltb, [], ◌∷◌, length, Some, None, Option, unwrap_or, sym, refl, ap, ◌∙◌, arith}
use mathlib.Core.Path.{fun_ext}
use Rattle.std.specs.List.{AllByRecursion as AllOf}
use Rattle.std.specs.Map.{update}
use Rattle.std.proofs.lemmas.Bool.{eqb-true, eqb-false, ltb-true, ltb-false}
use Rattle.std.proofs.lemmas.Option.{none-some}
use Rattle.clauses.specs.Clauses.{Clause}
use Rattle.shelf.specs.Lines.{Lines, Rising, Costs, find, insert, remove, total}

-- two tests of which at most one holds
pub swapped : {A : Type 0} (x y z : A) (a b : Bool) → (a ≡ true → b ≡ true → ⊥) → cond a x (cond b y z) ≡ cond b y (cond a x z)
swapped x y z true true h = absurd (h refl refl)
swapped x y z true false h = refl
swapped x y z false true h = refl
swapped x y z false false h = refl

apart : (n j k : ℕ) → eqb n j ≡ false → eqb k j ≡ true → eqb k n ≡ true → ⊥
apart n j k e p q = let a = eqb-true k j p in let b = eqb-true k n q in eqb-false n j e (sym b ∙ a)

-- ---- what is found after a line is added or removed

pub find_insert : (n : ℕ) (c : Clause) (xs : Lines) → find xs n ≡ None → (k : ℕ) → find (insert n c xs) k ≡ cond (eqb k n) (Some c) (find xs k)
find_insert n c [] free k = refl
find_insert n c (x ∷ xs) free k = here (eqb n x.0) refl free (λ f. find_insert n c xs f k)
  where
    next : eqb n x.0 ≡ false → find (insert n c xs) k ≡ cond (eqb k n) (Some c) (find xs k) → (b : Bool)
        → find (cond b ((n, c) ∷ x ∷ xs) (x ∷ insert n c xs)) k ≡ cond (eqb k n) (Some c) (find (x ∷ xs) k)
    next e later true = refl
    next e later false =
        ap (cond (eqb k x.0) (Some x.1)) later ∙ swapped (Some x.1) (Some c) (find xs k) (eqb k x.0) (eqb k n) (apart n x.0 k e)

    here : (b : Bool) → eqb n x.0 ≡ b → cond b (Some x.1) (find xs n) ≡ None
        → (find xs n ≡ None → find (insert n c xs) k ≡ cond (eqb k n) (Some c) (find xs k))
        → find (insert n c (x ∷ xs)) k ≡ cond (eqb k n) (Some c) (find (x ∷ xs) k)
    here true e f later = absurd (none-some x.1 (sym f))
    here false e f later = next e (later f) (ltb n x.0)

same_test : (n j k : ℕ) → eqb n j ≡ true → eqb k j ≡ eqb k n
same_test n j k e = ap (eqb k) (sym (eqb-true n j e))

twice : {A : Type 0} (x y z : A) (b : Bool) → cond b x z ≡ cond b x (cond b y z)
twice x y z true = refl
twice x y z false = refl

pub find_remove : (n : ℕ) (xs : Lines) (k : ℕ) → find (remove n xs) k ≡ cond (eqb k n) None (find xs k)
find_remove n [] k = go (eqb k n)
  where
    go : (b : Bool) → ◌≡◌ {A = Option Clause} None (cond b None None)
    go true = refl
    go false = refl
find_remove n (x ∷ xs) k = here (eqb n x.0) refl (find_remove n xs k)
  where
    here : (b : Bool) → eqb n x.0 ≡ b → find (remove n xs) k ≡ cond (eqb k n) None (find xs k)
        → find (cond b (remove n xs) (x ∷ remove n xs)) k ≡ cond (eqb k n) None (find (x ∷ xs) k)
    here true e later =
        later ∙ twice None (Some x.1) (find xs k) (eqb k n) ∙ ap (λ b. cond (eqb k n) None (cond b (Some x.1) (find xs k))) (sym (same_test n x.0 k e))
    here false e later =
        ap (cond (eqb k x.0) (Some x.1)) later ∙ swapped (Some x.1) None (find xs k) (eqb k x.0) (eqb k n) (apart n x.0 k e)

eqb_swap : (a b : ℕ) → eqb a b ≡ eqb b a
eqb_swap a b = go (eqb a b) refl (eqb b a) refl
  where
    go : (s : Bool) → eqb a b ≡ s → (t : Bool) → eqb b a ≡ t → s ≡ t
    go true e true f = refl
    go true e false f = absurd (eqb-false b a f (sym (eqb-true a b e)))
    go false e true f = absurd (eqb-false a b e (sym (eqb-true b a f)))
    go false e false f = refl

-- the same for the map as a whole
pub map_insert : (n : ℕ) (c : Clause) (xs : Lines) → find xs n ≡ None → find (insert n c xs) ≡ update eqb (find xs) n (Some c)
map_insert n c xs free = fun_ext (λ k. find_insert n c xs free k ∙ ap (λ b. cond b (Some c) (find xs k)) (eqb_swap k n))

pub map_remove : (n : ℕ) (xs : Lines) → find (remove n xs) ≡ update eqb (find xs) n None
map_remove n xs = fun_ext (λ k. find_remove n xs k ∙ ap (λ b. cond b None (find xs k)) (eqb_swap k n))

-- ---- the lines stay in order

all_insert : (a n : ℕ) (c : Clause) (xs : Lines) → a < n → AllOf (λ y. a < y.0) xs → AllOf (λ y. a < y.0) (insert n c xs)
all_insert a n c [] h all = (h, tt)
all_insert a n c (x ∷ xs) h all = go (ltb n x.0) (all_insert a n c xs h all.1)
  where
    go : (b : Bool) → AllOf (λ y. a < y.0) (insert n c xs) → AllOf (λ y. a < y.0) (cond b ((n, c) ∷ x ∷ xs) (x ∷ insert n c xs))
    go true later = (h, all)
    go false later = (all.0, later)

all_above : (a b : ℕ) (xs : Lines) → a ≤ b → AllOf (λ y. b < y.0) xs → AllOf (λ y. a < y.0) xs
all_above a b [] h all = tt
all_above a b (x ∷ xs) h all = (omega (arith, all.0), all_above a b xs h all.1)

pub rising_insert : (n : ℕ) (c : Clause) (xs : Lines) → find xs n ≡ None → Rising xs → Rising (insert n c xs)
rising_insert n c [] free rising = (tt, tt)
rising_insert n c (x ∷ xs) free rising = go (ltb n x.0) refl (eqb n x.0) refl free (λ f. rising_insert n c xs f rising.1)
  where
    go : (b : Bool) → ltb n x.0 ≡ b → (t : Bool) → eqb n x.0 ≡ t → cond t (Some x.1) (find xs n) ≡ None
        → (find xs n ≡ None → Rising (insert n c xs)) → Rising (cond b ((n, c) ∷ x ∷ xs) (x ∷ insert n c xs))
    go b e true q f later = absurd (none-some x.1 (sym f))
    go true e false q f later = let less = ltb-true n x.0 e in ((less, all_above n x.0 xs (omega arith) rising.0), rising)
    go false e false q f later =
        let more = ltb-false n x.0 e in
        let other = eqb-false n x.0 q in
        (all_insert x.0 n c xs (omega arith) rising.0, later f)

all_remove : (a n : ℕ) (xs : Lines) → AllOf (λ y. a < y.0) xs → AllOf (λ y. a < y.0) (remove n xs)
all_remove a n [] all = tt
all_remove a n (x ∷ xs) all = go (eqb n x.0) (all_remove a n xs all.1)
  where
    go : (b : Bool) → AllOf (λ y. a < y.0) (remove n xs) → AllOf (λ y. a < y.0) (cond b (remove n xs) (x ∷ remove n xs))
    go true later = later
    go false later = (all.0, later)

pub rising_remove : (n : ℕ) (xs : Lines) → Rising xs → Rising (remove n xs)
rising_remove n [] rising = tt
rising_remove n (x ∷ xs) rising = go (eqb n x.0) (rising_remove n xs rising.1)
  where
    go : (b : Bool) → Rising (remove n xs) → Rising (cond b (remove n xs) (x ∷ remove n xs))
    go true later = later
    go false later = (all_remove x.0 n xs rising.0, later)

-- a number below all others is not there
pub find_below : (n : ℕ) (xs : Lines) → AllOf (λ y. n < y.0) xs → find xs n ≡ None
find_below n [] all = refl
find_below n (x ∷ xs) all = go (eqb n x.0) refl (find_below n xs all.1)
  where
    go : (b : Bool) → eqb n x.0 ≡ b → find xs n ≡ None → cond b (Some x.1) (find xs n) ≡ None
    go true e later = let same = eqb-true n x.0 e in absurd (omega (arith, all.0))
    go false e later = later

-- a number that is not there is not removed
pub remove_none : (n : ℕ) (xs : Lines) → find xs n ≡ None → remove n xs ≡ xs
remove_none n [] free = refl
remove_none n (x ∷ xs) free = go (eqb n x.0) free (remove_none n xs)
  where
    go : (b : Bool) → cond b (Some x.1) (find xs n) ≡ None → (find xs n ≡ None → remove n xs ≡ xs) → cond b (remove n xs) (x ∷ remove n xs) ≡ x ∷ xs
    go true f later = absurd (none-some x.1 (sym f))
    go false f later = ap (◌∷◌ x) (later f)

-- ---- what the lines cost

pub total_insert : (cost : Costs) (n : ℕ) (c : Clause) (xs : Lines) → total cost (insert n c xs) ≡ unwrap_or (cost (length c)) 0 + total cost xs
total_insert cost n c [] = refl
total_insert cost n c (x ∷ xs) = go (ltb n x.0) (total_insert cost n c xs)
  where
    go : (b : Bool) → total cost (insert n c xs) ≡ unwrap_or (cost (length c)) 0 + total cost xs
        → total cost (cond b ((n, c) ∷ x ∷ xs) (x ∷ insert n c xs)) ≡ unwrap_or (cost (length c)) 0 + total cost (x ∷ xs)
    go true e = refl
    go false e = omega (arith, e)

-- a line that is struck frees its cost
pub total_remove : (cost : Costs) (n : ℕ) (c : Clause) (xs : Lines) → Rising xs → find xs n ≡ Some c
    → unwrap_or (cost (length c)) 0 + total cost (remove n xs) ≡ total cost xs
total_remove cost n c [] rising e = absurd (none-some c e)
total_remove cost n c (x ∷ xs) rising e = go (eqb n x.0) refl e (total_remove cost n c xs rising.1)
  where
    go : (b : Bool) → eqb n x.0 ≡ b → cond b (Some x.1) (find xs n) ≡ Some c
        → (find xs n ≡ Some c → unwrap_or (cost (length c)) 0 + total cost (remove n xs) ≡ total cost xs)
        → unwrap_or (cost (length c)) 0 + total cost (cond b (remove n xs) (x ∷ remove n xs)) ≡ total cost (x ∷ xs)
    go true q f later =
        let here = eqb-true n x.0 q in
        let only = remove_none n xs (find_below n xs (all_above n x.0 xs (omega arith) rising.0)) in
        let same : x.1 ≡ c = cc in
        ap (λ ys. unwrap_or (cost (length c)) 0 + total cost ys) only ∙ ap (λ d. unwrap_or (cost (length d)) 0 + total cost xs) (sym same)
    go false q f later = omega (arith, later f)
