-- What is kept or struck stays within a rule, and the room is enough for it.
use Rattle.std.proofs.Common.{◌≡◌, ℕ, ◌+◌, ◌<◌, ◌≤◌, Bool, true, false, cond, eqb, ltb, [], ◌∷◌, length, is_some, Some, None, Option, unwrap_or, refl, ap, ◌∙◌, arith}
use Rattle.std.proofs.lemmas.Bool.{leb-true, both_ways, and_parts, and_from}
use Rattle.clauses.specs.Clauses.{Clause}
use Rattle.shelf.specs.Lines.{Lines, Costs, insert, remove, total, affords}
use Rattle.shelf.proofs.Lines.{total_insert}
use Rattle.store.specs.Rows.{literals_in}
use Rattle.stored.specs.Rules.{priced, Holds}

-- ---- each line keeps its cost

priced_insert : (cost : Costs) (n : ℕ) (c : Clause) (xs : Lines) → is_some (cost (length c)) ≡ true → priced cost xs ≡ true → priced cost (insert n c xs) ≡ true
priced_insert cost n c [] h e = and_from (is_some (cost (length c))) true h refl
priced_insert cost n c (x ∷ xs) h e =
    let p = and_parts (is_some (cost (length x.1))) (priced cost xs) e in go (ltb n x.0) p.0 (priced_insert cost n c xs h p.1)
  where
    go : (b : Bool) → is_some (cost (length x.1)) ≡ true → priced cost (insert n c xs) ≡ true → priced cost (cond b ((n, c) ∷ x ∷ xs) (x ∷ insert n c xs)) ≡ true
    go true first later = and_from (is_some (cost (length c))) (priced cost (x ∷ xs)) h e
    go false first later = and_from (is_some (cost (length x.1))) (priced cost (insert n c xs)) first later

priced_remove : (cost : Costs) (n : ℕ) (xs : Lines) → priced cost xs ≡ true → priced cost (remove n xs) ≡ true
priced_remove cost n [] e = refl
priced_remove cost n (x ∷ xs) e =
    let p = and_parts (is_some (cost (length x.1))) (priced cost xs) e in go (eqb n x.0) p.0 (priced_remove cost n xs p.1)
  where
    go : (b : Bool) → is_some (cost (length x.1)) ≡ true → priced cost (remove n xs) ≡ true → priced cost (cond b (remove n xs) (x ∷ remove n xs)) ≡ true
    go true first later = later
    go false first later = and_from (is_some (cost (length x.1))) (priced cost (remove n xs)) first later

-- ---- the lines stay within the capacity

total_left : (cost : Costs) (n : ℕ) (xs : Lines) → total cost (remove n xs) ≤ total cost xs
total_left cost n [] = omega arith
total_left cost n (x ∷ xs) = go (eqb n x.0) (total_left cost n xs)
  where
    go : (b : Bool) → total cost (remove n xs) ≤ total cost xs → total cost (cond b (remove n xs) (x ∷ remove n xs)) ≤ total cost (x ∷ xs)
    go true h = omega arith
    go false h = omega arith

-- what it says that a line can be afforded
afforded : (cost : Costs) (cap n : ℕ) (c : Clause) (xs : Lines) → affords cap (total cost xs) (cost (length c)) ≡ true
    → (is_some (cost (length c)) ≡ true) × (total cost (insert n c xs) ≤ cap)
afforded cost cap n c xs a = go (cost (length c)) a (total_insert cost n c xs)
  where
    go : (o : Option ℕ) → affords cap (total cost xs) o ≡ true → total cost (insert n c xs) ≡ unwrap_or o 0 + total cost xs
        → (is_some o ≡ true) × (total cost (insert n c xs) ≤ cap)
    go None a e = absurd (both_ways false refl a)
    go (Some k) a e = (refl, omega (arith, leb-true (total cost xs + k) cap a))

-- ---- kept, and struck

-- The lines are within a rule.
pub record Within (cost : Costs) (cap : ℕ) (xs : Lines) : Type 0 where
  pub each : priced cost xs ≡ true
  pub sum : total cost xs ≤ cap

pub kept : (cost : Costs) (cap n : ℕ) (c : Clause) (xs ys : Lines) (ok : Bool) → affords cap (total cost xs) (cost (length c)) ≡ true
    → ys ≡ cond ok (insert n c xs) xs → Within cost cap xs → Within cost cap ys
kept cost cap n c xs ys true a e w =
    let more = afforded cost cap n c xs a in
    record {
      each = ap (priced cost) e ∙ priced_insert cost n c xs more.0 w.each;
      sum = omega (arith, ap (total cost) e, more.1);
    }
kept cost cap n c xs ys false a e w = record { each = ap (priced cost) e ∙ w.each; sum = omega (arith, ap (total cost) e, w.sum) }

pub struck : (cost : Costs) (cap n : ℕ) (xs ys : Lines) → ys ≡ remove n xs → Within cost cap xs → Within cost cap ys
struck cost cap n xs ys e w =
    record {
      each = ap (priced cost) e ∙ priced_remove cost n xs w.each;
      sum = omega (arith, ap (total cost) e, total_left cost n xs, w.sum);
    }

-- ---- room

insert_size : (n : ℕ) (c : Clause) (xs : Lines) → (length (insert n c xs) ≡ length xs + 1) × (literals_in (insert n c xs) ≡ literals_in xs + length c)
insert_size n c [] = (omega arith, omega arith)
insert_size n c (x ∷ xs) = go (ltb n x.0) (insert_size n c xs)
  where
    go : (b : Bool) → (length (insert n c xs) ≡ length xs + 1) × (literals_in (insert n c xs) ≡ literals_in xs + length c)
        → (length (cond b ((n, c) ∷ x ∷ xs) (x ∷ insert n c xs)) ≡ length (x ∷ xs) + 1)
        × (literals_in (cond b ((n, c) ∷ x ∷ xs) (x ∷ insert n c xs)) ≡ literals_in (x ∷ xs) + length c)
    go true h = (omega arith, omega arith)
    go false h = (omega (arith, h.0), omega (arith, h.1))

-- what can be afforded has room
pub has_room : (cost : Costs) (cap lines literals : ℕ) (c : Clause) (xs : Lines) → Holds cost cap lines literals
    → affords cap (total cost xs) (cost (length c)) ≡ true → priced cost xs ≡ true → (length xs < lines) × (literals_in xs + length c ≤ literals)
has_room cost cap lines literals c xs holds a each =
    let more = afforded cost cap 0 c xs a in
    let size = insert_size 0 c xs in
    let fits = holds (insert 0 c xs) (priced_insert cost 0 c xs more.0 each) more.1 in
    (omega (arith, fits.0, size.0), omega (arith, fits.1, size.1))

pub still_holds : (cost : Costs) (cap lines literals more_lines more_literals : ℕ) → Holds cost cap lines literals → lines ≤ more_lines → literals ≤ more_literals
    → Holds cost cap more_lines more_literals
still_holds cost cap lines literals more_lines more_literals holds l t xs each within =
    let fits = holds xs each within in (omega (arith, fits.0), omega (arith, fits.1))
