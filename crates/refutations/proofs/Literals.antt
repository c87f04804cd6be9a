-- The value of a literal after one is made true or false.
use Rattle.std.proofs.Common.{◌≡◌, zero, suc, ◌<◌, Bool, true, false, not, ◌≢◌, ◌⊎◌, ℤ, pos, negsuc, neg_ℤ, Some, None, Option, sym, refl, ap, ◌∙◌, inl, inr, arith}
use Rattle.std.proofs.lemmas.Map.{update_here, update_apart}
use Rattle.std.proofs.lemmas.Bool.{cases_eq}
use Rattle.clauses.specs.Clauses.{variable}
use Rattle.hints.specs.Hints.{Marks, flipped, value, assign}
use Rattle.refutations.specs.Words.{MarksInWords}

-- not 0
abbrev pub Literal : ℤ → Type 0
Literal l = 0 < variable l

flipped_twice : (o : Option Bool) → flipped (flipped o) ≡ o
flipped_twice None = refl
flipped_twice (Some true) = refl
flipped_twice (Some false) = refl

pub neg_variable : (l : ℤ) → variable (neg_ℤ l) ≡ variable l
neg_variable (pos zero) = refl
neg_variable (pos (suc x)) = refl
neg_variable (negsuc x) = refl

pub neg_apart : (l : ℤ) → Literal l → neg_ℤ l ≡ l → ⊥
neg_apart (pos zero) h e = omega arith
neg_apart (pos (suc x)) h e = cc
neg_apart (negsuc x) h e = cc

pub value_neg : (m : Marks) (l : ℤ) → value m (neg_ℤ l) ≡ flipped (value m l)
value_neg m (pos zero) = refl
value_neg m (pos (suc x)) = refl
value_neg m (negsuc x) = sym (flipped_twice (m x))

-- A literal is true where its negative is false.
pub neg_of_true : (m : Marks) (l : ℤ) → value m l ≡ Some true → value m (neg_ℤ l) ≡ Some false
neg_of_true m l e = value_neg m l ∙ ap flipped e

pub true_of_neg : (m : Marks) (l : ℤ) → value m (neg_ℤ l) ≡ Some false → value m l ≡ Some true
true_of_neg m l e = sym (flipped_twice (value m l)) ∙ ap flipped (sym (value_neg m l) ∙ e)

pub assigned_here : (m : Marks) (l : ℤ) (b : Bool) → Literal l → value (assign m l b) l ≡ Some b
assigned_here m (pos zero) b h = absurd (omega arith)
assigned_here m (pos (suc x)) b h = update_here m x (Some b)
assigned_here m (negsuc x) true h = ap flipped (update_here m x (Some false))
assigned_here m (negsuc x) false h = ap flipped (update_here m x (Some true))

other_kept : (m : Marks) (l k : ℤ) (b : Bool) → variable k ≢ variable l → value (assign m l b) k ≡ value m k
other_kept m (pos zero) k b apart = refl
other_kept m (pos (suc x)) (pos zero) b apart = refl
other_kept m (pos (suc x)) (pos (suc y)) b apart = update_apart m x (Some b) y (λ e. apart (ap suc e))
other_kept m (pos (suc x)) (negsuc y) b apart = ap flipped (update_apart m x (Some b) y (λ e. apart (ap suc e)))
other_kept m (negsuc x) (pos zero) b apart = refl
other_kept m (negsuc x) (pos (suc y)) b apart = update_apart m x (Some (not b)) y (λ e. apart (ap suc e))
other_kept m (negsuc x) (negsuc y) b apart = ap flipped (update_apart m x (Some (not b)) y (λ e. apart (ap suc e)))

pub marks_in_words : MarksInWords
marks_in_words m l b h =
    let here = assigned_here m l b h in
    (here, value_neg (assign m l b) l ∙ ap flipped here, λ k apart. other_kept m l k b apart)

-- Of two literals, one is the other, or its negative, or neither bears on the other.
abbrev pub Places : ℤ → ℤ → Type 0
Places h l = (l ≡ h) ⊎ ((l ≡ neg_ℤ h) ⊎ ((m : Marks) (b : Bool) → value (assign m h b) l ≡ value m l))

pub places : (h l : ℤ) → Literal h → Literal l → Places h l
places (pos zero) l p q = absurd (omega arith)
places (pos (suc a)) (pos zero) p q = absurd (omega arith)
places (pos (suc a)) (pos (suc b)) p q = go (cases_eq b a)
  where
    go : (b ≡ a) ⊎ (b ≡ a → ⊥) → Places (pos (suc a)) (pos (suc b))
    go (inl e) = inl (ap (λ x. pos (suc x)) e)
    go (inr e) = inr (inr (λ m w. update_apart m a (Some w) b e))
places (pos (suc a)) (negsuc b) p q = go (cases_eq b a)
  where
    go : (b ≡ a) ⊎ (b ≡ a → ⊥) → Places (pos (suc a)) (negsuc b)
    go (inl e) = inr (inl (ap negsuc e))
    go (inr e) = inr (inr (λ m w. ap flipped (update_apart m a (Some w) b e)))
places (negsuc a) (pos zero) p q = absurd (omega arith)
places (negsuc a) (pos (suc b)) p q = go (cases_eq b a)
  where
    go : (b ≡ a) ⊎ (b ≡ a → ⊥) → Places (negsuc a) (pos (suc b))
    go (inl e) = inr (inl (ap (λ x. pos (suc x)) e))
    go (inr e) = inr (inr (λ m w. update_apart m a (Some (not w)) b e))
places (negsuc a) (negsuc b) p q = go (cases_eq b a)
  where
    go : (b ≡ a) ⊎ (b ≡ a → ⊥) → Places (negsuc a) (negsuc b)
    go (inl e) = inl (ap negsuc e)
    go (inr e) = inr (inr (λ m w. ap flipped (update_apart m a (Some (not w)) b e)))
