-- What follows by hints holds wherever the clauses hold. Under a valuation that makes the line false every mark is the
-- valuation's, so that no clause that holds is in conflict with the marks.
use Rattle.std.proofs.Common.{◌≡◌, ℕ, zero, suc, Bool, true, false, cond, not, eqb, ◌⊎◌, List, [], ◌∷◌, ℤ, pos, negsuc, Some, None, Ok, Option, sym, refl, ap, ◌∙◌, inl, inr}
use Rattle.std.proofs.Math.Bool.{not-not}
use Rattle.std.specs.Map.{update}
use Rattle.std.proofs.lemmas.Bool.{eqb-true, both_ways, or_cases, or_parts}
use Rattle.clauses.specs.Clauses.{Clause, Valuation, true_literal, some_true}
use Rattle.hints.specs.declared.Reading.{Reading}
use Rattle.hints.specs.declared.Reading.TheVariants.{Conflict, Forced, Slack}
use Rattle.hints.specs.Hints.{Marks, unset, flipped, value, assign, names, unless_true, falsified, same, one_more, weighed, joined, reading, by_reading, by_hint, by_hints, by_line}
use Rattle.refutations.specs.Claims.{Models, Sound}

pub same_is : (k l : ℤ) → same k l ≡ true → k ≡ l
same_is (pos m) (pos n) e = ap pos (eqb-true m n e)
same_is (pos m) (negsuc n) e = cc
same_is (negsuc m) (pos n) e = cc
same_is (negsuc m) (negsuc n) e = ap negsuc (eqb-true m n e)

-- ---- marks that are the valuation's

flipped_some : (o : Option Bool) (b : Bool) → flipped o ≡ Some b → o ≡ Some (not b)
flipped_some None b e = cc
flipped_some (Some true) b e = let h : false ≡ b = cc in rw (← h)
flipped_some (Some false) b e = let h : true ≡ b = cc in rw (← h)

abbrev Agrees : Marks → Valuation → Type 0
Agrees m v = (x : ℕ) (b : Bool) → m x ≡ Some b → v x ≡ b

module _ (v : Valuation) (m : Marks) (agrees : Agrees m v) where
  value_agrees : (l : ℤ) (b : Bool) → value m l ≡ Some b → true_literal v l ≡ b
  value_agrees (pos zero) b e = cc
  value_agrees (pos (suc x)) b e = agrees x b e
  value_agrees (negsuc x) b e = ap not (agrees x (not b) (flipped_some (m x) b e)) ∙ not-not b

  update_agrees : (x : ℕ) (w : Bool) → v x ≡ w → Agrees (update eqb m x (Some w)) v
  update_agrees x w here y b e = go (eqb x y) refl e
    where
      go : (t : Bool) → eqb x y ≡ t → cond t (Some w) (m y) ≡ Some b → v y ≡ b
      go true q e' = let h : w ≡ b = cc in ap v (sym (eqb-true x y q)) ∙ here ∙ h
      go false q e' = agrees y b e'

  assign_agrees : (l : ℤ) (b : Bool) → true_literal v l ≡ b → Agrees (assign m l b) v
  assign_agrees (pos zero) b h = agrees
  assign_agrees (pos (suc x)) b h = update_agrees x b h
  assign_agrees (negsuc x) b h = update_agrees x (not b) (sym (not-not (v x)) ∙ ap not h)

-- A line that the valuation makes false has no literal with its negative, and its marks are the valuation's.
abbrev Opened : Valuation → Option Marks → Type 0
Opened v None = ⊥
Opened v (Some m) = Agrees m v

falsified_agrees : (v : Valuation) (ls : Clause) → some_true v ls ≡ false → (m : Marks) → Agrees m v → Opened v (falsified m ls)
falsified_agrees v [] fails m agrees = agrees
falsified_agrees v (l ∷ ls) fails m agrees =
    let parts = or_parts (true_literal v l) (some_true v ls) fails in
    go parts.0 (value m l) refl (falsified_agrees v ls parts.1 (assign m l false) (assign_agrees v m agrees l false parts.0))
  where
    rest : Option Marks
    rest = falsified (assign m l false) ls

    go : true_literal v l ≡ false → (o : Option Bool) → value m l ≡ o → Opened v rest → Opened v (unless_true o rest)
    go h None e later = later
    go h (Some false) e later = later
    go h (Some true) e later = both_ways (true_literal v l) h (value_agrees v m agrees l true e)

-- ---- a clause that holds

-- what its reading tells: it is no conflict, and the literal that it forces is true
abbrev Told : Valuation → Reading → Type 0
Told v Conflict = ⊥
Told v (Forced l) = true_literal v l ≡ true
Told v Slack = Unit {0}

module _ (v : Valuation) where
  -- what was told is told still
  one_more_kept : (r : Reading) (l : ℤ) → Told v r → Told v (one_more r l)
  one_more_kept Conflict l t = absurd t
  one_more_kept (Forced k) l t = go (same k l)
    where
      go : (b : Bool) → Told v (cond b (Forced k) Slack)
      go true = t
      go false = tt
  one_more_kept Slack l t = tt

  -- a literal that is true is told
  one_more_here : (r : Reading) (l : ℤ) → true_literal v l ≡ true → Told v (one_more r l)
  one_more_here Conflict l h = h
  one_more_here (Forced k) l h = go (same k l) refl
    where
      go : (b : Bool) → same k l ≡ b → Told v (cond b (Forced k) Slack)
      go true e = ap (true_literal v) (same_is k l e) ∙ h
      go false e = tt
  one_more_here Slack l h = tt

  weighed_kept : (r : Reading) (l : ℤ) (o : Option Bool) → Told v r → Told v (weighed r l o)
  weighed_kept r l None t = one_more_kept r l t
  weighed_kept r l (Some false) t = t
  weighed_kept r l (Some true) t = tt

  named : (b : Bool) (r : Reading) → Told v r → Told v (cond b r Slack)
  named true r t = t
  named false r t = tt

  module _ (V : ℕ) (m : Marks) where
    reading_kept : (ls : Clause) (r : Reading) → Told v r → Told v (reading V m r ls)
    reading_kept [] r t = t
    reading_kept (l ∷ ls) r t =
        reading_kept ls (joined V m r l) (named (names V l) (weighed r l (value m l)) (weighed_kept r l (value m l) t))

    module _ (agrees : Agrees m v) where
      weighed_here : (r : Reading) (l : ℤ) → true_literal v l ≡ true → (o : Option Bool) → value m l ≡ o → Told v (weighed r l o)
      weighed_here r l h None e = one_more_here r l h
      weighed_here r l h (Some false) e = absurd (both_ways (true_literal v l) (value_agrees v m agrees l false e) h)
      weighed_here r l h (Some true) e = tt

      reading_told : (ls : Clause) (r : Reading) → some_true v ls ≡ true → Told v (reading V m r ls)
      reading_told [] r s = absurd (both_ways false refl s)
      reading_told (l ∷ ls) r s = go (or_cases (true_literal v l) (some_true v ls) s) (reading_told ls (joined V m r l))
        where
          go : (true_literal v l ≡ true) ⊎ (some_true v ls ≡ true) → (some_true v ls ≡ true → Told v (reading V m (joined V m r l) ls))
              → Told v (reading V m (joined V m r l) ls)
          go (inl h) later =
              reading_kept ls (joined V m r l) (named (names V l) (weighed r l (value m l)) (weighed_here r l h (value m l) refl))
          go (inr t) later = later t

-- ---- the hints

-- Clauses that hold come to no conflict under a valuation's marks.
never : (V : ℕ) (v : Valuation) (clauses : ℕ → Option Clause) → Models v clauses
    → (hs : List ℕ) (m : Marks) → Agrees m v → by_hints V clauses m hs ≡ Ok tt → ⊥
never V v clauses models [] m agrees e = cc
never V v clauses models (h ∷ hs) m agrees e = hint (never V v clauses models hs) (clauses h) refl e
  where
    Later : Type 0
    Later = (m' : Marks) → Agrees m' v → by_hints V clauses m' hs ≡ Ok tt → ⊥

    read : Later → (r : Reading) → Told v r → by_reading r m (λ m'. by_hints V clauses m' hs) ≡ Ok tt → ⊥
    read later Conflict t e' = t
    read later (Forced l) t e' = later (assign m l true) (assign_agrees v m agrees l true t) e'
    read later Slack t e' = cc

    hint : Later → (o : Option Clause) → clauses h ≡ o → by_hint V o m (λ m'. by_hints V clauses m' hs) ≡ Ok tt → ⊥
    hint later None q e' = cc
    hint later (Some c) q e' = read later (reading V m Conflict c) (reading_told v V m agrees c Conflict (models h c q)) e'

pub sound : Sound
sound V clauses line hints e v models = by_test (some_true v line) refl
  where
    from : (o : Option Marks) → Opened v o → by_line o (λ m. by_hints V clauses m hints) ≡ Ok tt → ⊥
    from None t e' = t
    from (Some m) agrees e' = never V v clauses models hints m agrees e'

    by_test : (t : Bool) → some_true v line ≡ t → t ≡ true
    by_test true q = refl
    by_test false q = absurd (from (falsified unset line) (falsified_agrees v line q unset (λ x b h. cc)) e)
