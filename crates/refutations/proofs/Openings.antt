-- What a line makes false, in words.
use Rattle.std.proofs.Common.{◌≡◌, ℕ, zero, suc, Bool, true, false, ◌⊎◌, ◌↔◌, [], ◌∷◌, ℤ, pos, negsuc, neg_ℤ, Some, None, Option, sym, refl, ap, ◌∙◌, subst, ⊎_elim, inl, inr, arith}
use Rattle.std.specs.List.{AllByRecursion as AllOf}
use Rattle.std.proofs.ByRecursion.{All-weaker}
use Rattle.clauses.specs.Clauses.{Clause}
use Rattle.hints.specs.Hints.{Marks, unset, flipped, value, assign, unless_true, falsified}
use Rattle.refutations.specs.Refuting.{Within}
use Rattle.refutations.specs.Words.{In, LineInWords}
use Rattle.refutations.proofs.Literals.{Literal, neg_variable, neg_apart, value_neg, neg_of_true, true_of_neg, assigned_here, Places, places}

true_false : (o : Option Bool) → o ≡ Some true → o ≡ Some false → ⊥
true_false o p q = cc

none_true : (o : Option Bool) → o ≡ None → o ≡ Some true → ⊥
none_true o p q = cc

neg_literal : (l : ℤ) → Literal l → Literal (neg_ℤ l)
neg_literal l h = let e = neg_variable l in omega arith

-- The false literals are those of P.
abbrev FalseAre : Marks → (ℤ → Type 0) → Type 0
FalseAre m P = (l : ℤ) → Literal l → (value m l ≡ Some false) ↔ P l

-- one more literal made false, that is not true yet
false_more : (m : Marks) (P : ℤ → Type 0) → FalseAre m P → (h : ℤ) → Literal h → (value m h ≡ Some true → ⊥)
    → FalseAre (assign m h false) (λ l. (h ≡ l) ⊎ P l)
false_more m P are h p free l q = go (places h l p q)
  where
    m' : Marks
    m' = assign m h false

    other : ((m : Marks) (b : Bool) → value (assign m h b) l ≡ value m l) → (h ≡ l) ⊎ P l → value m' l ≡ Some false
    other kept (inl e) = ap (value m') (sym e) ∙ assigned_here m h false p
    other kept (inr x) = kept m false ∙ (are l q).1 x

    apart : l ≡ neg_ℤ h → (h ≡ l) ⊎ P l → ⊥
    apart e (inl e') = neg_apart h p (sym e ∙ sym e')
    apart e (inr x) = free (true_of_neg m h (ap (value m) (sym e) ∙ (are l q).1 x))

    now_true : l ≡ neg_ℤ h → value m' l ≡ Some true
    now_true e = ap (value m') e ∙ value_neg m' h ∙ ap flipped (assigned_here m h false p)

    go : Places h l → (value m' l ≡ Some false) ↔ ((h ≡ l) ⊎ P l)
    go (inl e) = (λ _. inl (sym e), λ _. ap (value m') e ∙ assigned_here m h false p)
    go (inr (inl e)) = (λ f. absurd (true_false (value m' l) (now_true e) f), λ x. absurd (apart e x))
    go (inr (inr kept)) = (λ f. inr ((are l q).0 (sym (kept m false) ∙ f)), other kept)

-- What the literals of a line, made false after those of P, come to.
abbrev Said : (ℤ → Type 0) → Clause → Option Marks → Type 0
Said P ls None = (l : ℤ) × In l ls × (In (neg_ℤ l) ls ⊎ P (neg_ℤ l))
Said P ls (Some m) = FalseAre m (λ l. In l ls ⊎ P l)

said_more : (P : ℤ → Type 0) (h : ℤ) (ls : Clause) (o : Option Marks) → Said (λ l. (h ≡ l) ⊎ P l) ls o → Said P (h ∷ ls) o
said_more P h ls None s = (s.0, inr s.1, go s.2)
  where
    go : In (neg_ℤ s.0) ls ⊎ ((h ≡ neg_ℤ s.0) ⊎ P (neg_ℤ s.0)) → In (neg_ℤ s.0) (h ∷ ls) ⊎ P (neg_ℤ s.0)
    go (inl i) = inl (inr i)
    go (inr (inl e)) = inl (inl e)
    go (inr (inr x)) = inr x
said_more P h ls (Some m) s = λ l q. (λ f. to l ((s l q).0 f), λ x. (s l q).1 (from l x))
  where
    to : (l : ℤ) → In l ls ⊎ ((h ≡ l) ⊎ P l) → In l (h ∷ ls) ⊎ P l
    to l (inl i) = inl (inr i)
    to l (inr (inl e)) = inl (inl e)
    to l (inr (inr x)) = inr x

    from : (l : ℤ) → In l (h ∷ ls) ⊎ P l → In l ls ⊎ ((h ≡ l) ⊎ P l)
    from l (inl (inl e)) = inr (inl e)
    from l (inl (inr i)) = inl i
    from l (inr x) = inr (inr x)

said : (ls : Clause) → AllOf Literal ls → (m : Marks) (P : ℤ → Type 0) → FalseAre m P → Said P ls (falsified m ls)
said [] literals m P are = λ l q. (λ f. inr ((are l q).0 f), none l q)
  where
    none : (l : ℤ) → Literal l → In l [] ⊎ P l → value m l ≡ Some false
    none l q (inl i) = absurd i
    none l q (inr x) = (are l q).1 x
said (h ∷ ls) literals m P are =
    go (value m h) refl (λ free. said ls literals.1 (assign m h false) (λ l. (h ≡ l) ⊎ P l) (false_more m P are h literals.0 free))
  where
    rest : Option Marks
    rest = falsified (assign m h false) ls

    go : (o : Option Bool) → value m h ≡ o → ((value m h ≡ Some true → ⊥) → Said (λ l. (h ≡ l) ⊎ P l) ls rest)
        → Said P (h ∷ ls) (unless_true o rest)
    go None e later = said_more P h ls rest (later (none_true (value m h) e))
    go (Some false) e later = said_more P h ls rest (later (λ t. true_false (value m h) t e))
    go (Some true) e later = (h, inl refl, inr ((are (neg_ℤ h) (neg_literal h literals.0)).0 (neg_of_true m h e)))

literal_in : (l : ℤ) (ls : Clause) → AllOf Literal ls → In l ls → Literal l
literal_in l [] literals i = absurd i
literal_in l (k ∷ ks) literals (inl e) = subst Literal e literals.0
literal_in l (k ∷ ks) literals (inr i) = literal_in l ks literals.1 i

nothing_false : (l : ℤ) → value unset l ≡ Some false → ⊥
nothing_false (pos zero) f = cc
nothing_false (pos (suc x)) f = cc
nothing_false (negsuc x) f = cc

module _ (V : ℕ) (line : Clause) (within : AllOf (Within V) line) where
  abbrev Clash : Type 0
  Clash = (l : ℤ) × In l line × In (neg_ℤ l) line

  literals : AllOf Literal line
  literals = All-weaker (Within V) Literal (λ l w. w.0) line within

  line_said : Said (λ l. ⊥) line (falsified unset line)
  line_said = said line literals unset (λ l. ⊥) (λ l q. (nothing_false l, λ x. absurd x))

  clash : (o : Option Marks) → Said (λ l. ⊥) line o → o ≡ None → Clash
  clash None s e = (s.0, s.1, ⊎_elim (λ a. a) absurd s.2)
  clash (Some m) s e = cc

  passes : (o : Option Marks) → Said (λ l. ⊥) line o → Clash → o ≡ None
  passes None s c = refl
  passes (Some m) s (l, here, there) =
      let q = literal_in l line literals here in
      absurd (true_false (value m l) (true_of_neg m l ((s (neg_ℤ l) (neg_literal l q)).1 (inl there))) ((s l q).1 (inl here)))

  opened : (o : Option Marks) → Said (λ l. ⊥) line o → (m : Marks) → o ≡ Some m → (l : ℤ) → Within V l → (value m l ≡ Some false) ↔ In l line
  opened None s m e l w = cc
  opened (Some k) s m e l w =
      let km : k ≡ m = cc in
      let are : FalseAre m (λ j. In j line ⊎ ⊥) = subst (λ n. FalseAre n (λ j. In j line ⊎ ⊥)) km s in
      (λ f. ⊎_elim (λ a. a) absurd ((are l w.0).0 f), λ i. (are l w.0).1 (inl i))

pub line_in_words : LineInWords
line_in_words V line within =
    let o = falsified unset line in
    let s = line_said V line within in
    ((clash V line within o s, passes V line within o s), opened V line within o s)
