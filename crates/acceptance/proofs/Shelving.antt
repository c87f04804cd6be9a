-- The lines kept, and the clauses that a hint can name, after a line is kept or struck.
use Rattle.std.proofs.Common.{◌≡◌, ℕ, zero, suc, ◌+◌, ◌<◌, ◌≤◌, Bool, true, false, cond, not, eqb, ltb, leb, ◌≢◌, ◌⊎◌, List, [], ◌∷◌, length, is_some, Some, None, Option, unwrap_or, sym, refl, ap, ◌∙◌, subst, inl, inr, arith}
use mathlib.Core.Path.{fun_ext}
use Rattle.std.specs.List.{AllByRecursion as AllOf}
use Rattle.std.specs.Map.{update}
use Rattle.std.proofs.lemmas.Option.{none-some, slice_get_past}
use Rattle.std.proofs.lemmas.Bool.{both_ways, and_parts, and_from, and_right, leb-true, le-leb, lt-leb, eqb-true, ltb-false, leb-false, and_cases}
use Rattle.clauses.specs.Clauses.{Clause, numbered}
use Rattle.refuting.specs.Judging.{Terms, known}
use Rattle.shelf.specs.Lines.{Lines, Costs, find, insert, remove, total, affords, keeps}
use Rattle.shelf.specs.Premises.{of_formula, premises}
use Rattle.shelf.proofs.Lines.{swapped, map_insert, map_remove, total_insert}

-- ---- what all lines have

module _ (P : ℕ × Clause → Type 0) where
  pub all_insert : (n : ℕ) (c : Clause) (xs : Lines) → P (n, c) → AllOf P xs → AllOf P (insert n c xs)
  all_insert n c [] p all = (p, tt)
  all_insert n c (x ∷ xs) p all = go (ltb n x.0) (all_insert n c xs p all.1)
    where
      go : (b : Bool) → AllOf P (insert n c xs) → AllOf P (cond b ((n, c) ∷ x ∷ xs) (x ∷ insert n c xs))
      go true later = (p, all)
      go false later = (all.0, later)

  pub all_remove : (n : ℕ) (xs : Lines) → AllOf P xs → AllOf P (remove n xs)
  all_remove n [] all = tt
  all_remove n (x ∷ xs) all = go (eqb n x.0) (all_remove n xs all.1)
    where
      go : (b : Bool) → AllOf P (remove n xs) → AllOf P (cond b (remove n xs) (x ∷ remove n xs))
      go true later = later
      go false later = (all.0, later)

-- a line that is found has what all have of their literals
pub found : (P : Clause → Type 0) (xs : Lines) → AllOf (λ x. P x.1) xs → (k : ℕ) (c : Clause) → find xs k ≡ Some c → P c
found P [] all k c e = absurd (none-some c e)
found P (x ∷ xs) all k c e = go (eqb k x.0) e (found P xs all.1 k c)
  where
    go : (b : Bool) → cond b (Some x.1) (find xs k) ≡ Some c → (find xs k ≡ Some c → P c) → P c
    go true q later = let h : x.1 ≡ c = cc in subst P h all.0
    go false q later = later q

-- a number above all others is not there
pub find_above : (n : ℕ) (xs : Lines) → AllOf (λ x. x.0 < n) xs → find xs n ≡ None
find_above n [] all = refl
find_above n (x ∷ xs) all = go (eqb n x.0) refl (find_above n xs all.1)
  where
    go : (b : Bool) → eqb n x.0 ≡ b → find xs n ≡ None → cond b (Some x.1) (find xs n) ≡ None
    go true e later = let same = eqb-true n x.0 e in absurd (omega (arith, all.0))
    go false e later = later

-- ---- room for one more

not_some : (o : Option Clause) → o ≡ None → not (is_some o) ≡ true
not_some None e = refl
not_some (Some c) e = absurd (none-some c (sym e))

is_none : (o : Option Clause) → not (is_some o) ≡ true → o ≡ None
is_none None e = refl
is_none (Some c) e = absurd (both_ways false refl e)

affordable : (capacity used : ℕ) (o : Option ℕ) → o ≢ None → unwrap_or o 0 + used ≤ capacity → affords capacity used o ≡ true
affordable capacity used None h room = absurd (h refl)
affordable capacity used (Some k) h room = le-leb (used + k) capacity (omega arith)

afforded : (capacity used : ℕ) (o : Option ℕ) → affords capacity used o ≡ true → (o ≢ None) × (unwrap_or o 0 + used ≤ capacity)
afforded capacity used None e = absurd (both_ways false refl e)
afforded capacity used (Some k) e = let room = leb-true (used + k) capacity e in (λ q. none-some k (sym q), omega arith)

module _ (capacity : ℕ) (cost : Costs) (xs : Lines) (n : ℕ) (c : Clause) where
  pub keeps_true : find xs n ≡ None → cost (length c) ≢ None → total cost (insert n c xs) ≤ capacity → keeps capacity cost xs n c ≡ true
  keeps_true free has room =
      and_from (not (is_some (find xs n))) (affords capacity (total cost xs) (cost (length c))) (not_some (find xs n) free)
      (affordable capacity (total cost xs) (cost (length c)) has (subst (λ k. k ≤ capacity) (total_insert cost n c xs) room))

  pub keeps_parts : keeps capacity cost xs n c ≡ true → (find xs n ≡ None) × (cost (length c) ≢ None) × (total cost (insert n c xs) ≤ capacity)
  keeps_parts e =
      let parts = and_parts (not (is_some (find xs n))) (affords capacity (total cost xs) (cost (length c))) e in
      let room = afforded capacity (total cost xs) (cost (length c)) parts.1 in
      (is_none (find xs n) parts.0, room.0, subst (λ k. k ≤ capacity) (sym (total_insert cost n c xs)) room.1)

-- ---- the clauses that a hint can name

pub past_formula : (count n : ℕ) → count < n → of_formula count n ≡ false
past_formula count n h = and_right (ltb 0 n) (leb n count) (lt-leb n count h)

module _ (t : Terms) (xs : Lines) (n : ℕ) (above : t.count < n) where
  outside : (k : ℕ) → of_formula t.count k ≡ true → eqb n k ≡ true → ⊥
  outside k f e = both_ways (of_formula t.count k) (ap (of_formula t.count) (sym (eqb-true n k e)) ∙ past_formula t.count n above) f

  pub known_insert : (c : Clause) → find xs n ≡ None → known t (insert n c xs) ≡ update eqb (known t xs) n (Some c)
  known_insert c free =
      fun_ext
      (λ k. ap (cond (of_formula t.count k) (t.formula k)) (ap (λ f. f k) (map_insert n c xs free))
      ∙ swapped (t.formula k) (Some c) (find xs k) (of_formula t.count k) (eqb n k) (outside k))

  pub known_remove : known t (remove n xs) ≡ update eqb (known t xs) n None
  known_remove =
      fun_ext
      (λ k. ap (cond (of_formula t.count k) (t.formula k)) (ap (λ f. f k) (map_remove n xs))
      ∙ swapped (t.formula k) None (find xs k) (of_formula t.count k) (eqb n k) (outside k))

  pub known_past : known t xs n ≡ find xs n
  known_past = ap (λ b. cond b (t.formula n) (find xs n)) (past_formula t.count n above)

numbered_past : (F : List Clause) (k : ℕ) → of_formula (length F) k ≡ false → numbered F k ≡ None
numbered_past F zero e = refl
numbered_past F (suc i) e = slice_get_past F i (go (and_cases (ltb 0 (suc i)) (leb (suc i) (length F)) e))
  where
    go : (ltb 0 (suc i) ≡ false) ⊎ (leb (suc i) (length F) ≡ false) → length F ≤ i
    go (inl q) = let h = ltb-false 0 (suc i) q in absurd (omega arith)
    go (inr q) = let h = leb-false (suc i) (length F) q in omega arith

pub known_first : (F : List Clause) → premises (length F) (numbered F) (find []) ≡ numbered F
known_first F = fun_ext (λ k. go k (of_formula (length F) k) refl)
  where
    go : (k : ℕ) (b : Bool) → of_formula (length F) k ≡ b → cond b (numbered F k) None ≡ numbered F k
    go k true e = refl
    go k false e = sym (numbered_past F k e)
