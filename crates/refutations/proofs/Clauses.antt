-- What a clause says under the marks, in words.
use Rattle.std.proofs.Common.{◌≡◌, ℕ, Bool, true, false, cond, ◌⊎◌, [], ◌∷◌, ℤ, pos, negsuc, Some, None, Option, sym, refl, ap, ◌∙◌, subst, inl, inr}
use Rattle.std.specs.List.{AllByRecursion as AllOf}
use Rattle.std.proofs.lemmas.Bool.{eq-eqb}
use Rattle.clauses.specs.Clauses.{Clause}
use Rattle.hints.specs.declared.Reading.{Reading}
use Rattle.hints.specs.declared.Reading.TheVariants.{Conflict, Forced, Slack}
use Rattle.hints.specs.Hints.{Marks, value, names, same, one_more, weighed, joined, reading}
use Rattle.refutations.specs.Refuting.{Within}
use Rattle.refutations.specs.Words.{In, AllFalse, OneUnset, Neither, ReadingInWords}
use Rattle.refutations.proofs.Soundness.{same_is}
use Rattle.refutations.proofs.Within.{names_within, within_names}

forced_conflict : (l : ℤ) → Forced l ≡ Conflict → ⊥
forced_conflict l e = cc

slack_conflict : Slack ≡ Conflict → ⊥
slack_conflict e = cc

slack_forced : (l : ℤ) → Slack ≡ Forced l → ⊥
slack_forced l e = cc

same_refl : (l : ℤ) → same l l ≡ true
same_refl (pos n) = eq-eqb n n refl
same_refl (negsuc n) = eq-eqb n n refl

-- ---- one literal more

one_more_conflict : (r : Reading) (l : ℤ) → one_more r l ≡ Conflict → ⊥
one_more_conflict Conflict l e = forced_conflict l e
one_more_conflict (Forced k) l e = go (same k l) e
  where
    go : (b : Bool) → cond b (Forced k) Slack ≡ Conflict → ⊥
    go true q = forced_conflict k q
    go false q = slack_conflict q
one_more_conflict Slack l e = slack_conflict e

one_more_forced : (r : Reading) (k l : ℤ) → one_more r k ≡ Forced l → (k ≡ l) × ((r ≡ Conflict) ⊎ (r ≡ Forced l))
one_more_forced Conflict k l e = (cc, inl refl)
one_more_forced (Forced j) k l e = go (same j k) refl e
  where
    go : (b : Bool) → same j k ≡ b → cond b (Forced j) Slack ≡ Forced l → (k ≡ l) × ((Forced j ≡ Conflict) ⊎ (Forced j ≡ Forced l))
    go true q e' = let jk = same_is j k q in (cc, inr e')
    go false q e' = absurd (slack_forced l e')
one_more_forced Slack k l e = absurd (slack_forced l e)

module _ (V : ℕ) (m : Marks) where
  -- the literal names a variable and is false
  abbrev pub False : ℤ → Type 0
  False l = Within V l × (value m l ≡ Some false)

  pub joined_false : (r : Reading) (l : ℤ) → False l → joined V m r l ≡ r
  joined_false r l f = ap (λ b. cond b (weighed r l (value m l)) Slack) (within_names V l f.0) ∙ ap (weighed r l) f.1

  pub joined_unset : (r : Reading) (l : ℤ) → Within V l → value m l ≡ None → joined V m r l ≡ one_more r l
  joined_unset r l w e = ap (λ b. cond b (weighed r l (value m l)) Slack) (within_names V l w) ∙ ap (weighed r l) e

  -- what came before s, which is not slack: the same, and a false literal, or one that is unset
  abbrev Before : Reading → Reading → ℤ → Type 0
  Before s r l = ((r ≡ s) × False l) ⊎ (Within V l × (value m l ≡ None) × (one_more r l ≡ s))

  joined_back : (s r : Reading) (l : ℤ) → (s ≡ Slack → ⊥) → joined V m r l ≡ s → Before s r l
  joined_back s r l tight e = go (names V l) refl (value m l) refl e
    where
      go : (b : Bool) → names V l ≡ b → (o : Option Bool) → value m l ≡ o → cond b (weighed r l o) Slack ≡ s → Before s r l
      go false q o p e' = absurd (tight (sym e'))
      go true q None p e' = inr (names_within V l q, p, e')
      go true q (Some false) p e' = inl (e', (names_within V l q, p))
      go true q (Some true) p e' = absurd (tight (sym e'))

  -- ---- conflict

  pub reading_false : (c : Clause) (r : Reading) → AllFalse V m c → reading V m r c ≡ r
  reading_false [] r all = refl
  reading_false (l ∷ ls) r all = ap (λ s. reading V m s ls) (joined_false r l all.0) ∙ reading_false ls r all.1

  conflict_read : (c : Clause) (r : Reading) → reading V m r c ≡ Conflict → (r ≡ Conflict) × AllFalse V m c
  conflict_read [] r e = (e, tt)
  conflict_read (l ∷ ls) r e =
      let later = conflict_read ls (joined V m r l) e in
      go later.1 (joined_back Conflict r l (λ q. slack_conflict (sym q)) later.0)
    where
      go : AllFalse V m ls → Before Conflict r l → (r ≡ Conflict) × AllFalse V m (l ∷ ls)
      go all (inl h) = (h.0, (h.1, all))
      go all (inr h) = absurd (one_more_conflict r l h.2)

  -- ---- one literal forced

  abbrev Rest : Clause → ℤ → Type 0
  Rest c l = AllOf (λ k. (k ≡ l) ⊎ False k) c

  -- the literal is the one from before, or stands in the clause
  abbrev Said : Clause → ℤ → Reading → Type 0
  Said c l r = ((r ≡ Forced l) × Rest c l) ⊎ ((r ≡ Conflict) × OneUnset V m c l)

  forced_read : (c : Clause) (l : ℤ) (r : Reading) → reading V m r c ≡ Forced l → Said c l r
  forced_read [] l r e = inl (e, tt)
  forced_read (k ∷ ks) l r e = go (forced_read ks l (joined V m r k) e)
    where
      unset_here : Within V k → value m k ≡ None → Rest ks l → (k ≡ l) × ((r ≡ Conflict) ⊎ (r ≡ Forced l)) → Said (k ∷ ks) l r
      unset_here w q rest (here, inl was) = inr (was, (subst (Within V) here w, ap (value m) (sym here) ∙ q, inl here, (inl here, rest)))
      unset_here w q rest (here, inr was) = inl (was, (inl here, rest))

      from_forced : Rest ks l → Before (Forced l) r k → Said (k ∷ ks) l r
      from_forced rest (inl h) = inl (h.0, (inr h.1, rest))
      from_forced rest (inr h) = unset_here h.0 h.1 rest (one_more_forced r k l h.2)

      from_conflict : OneUnset V m ks l → Before Conflict r k → Said (k ∷ ks) l r
      from_conflict one (inl h) = inr (h.0, (one.0, one.1, inr one.2, (inr h.1, one.3)))
      from_conflict one (inr h) = absurd (one_more_conflict r k h.2)

      go : Said ks l (joined V m r k) → Said (k ∷ ks) l r
      go (inl s) = from_forced s.1 (joined_back (Forced l) r k (λ q. slack_forced l (sym q)) s.0)
      go (inr s) = from_conflict s.1 (joined_back Conflict r k (λ q. slack_conflict (sym q)) s.0)

  -- the literal that is unset stays the one
  forced_stays : (l : ℤ) → Within V l → value m l ≡ None → (c : Clause) → Rest c l → reading V m (Forced l) c ≡ Forced l
  forced_stays l w un [] rest = refl
  forced_stays l w un (k ∷ ks) rest = ap (λ r. reading V m r ks) (go rest.0) ∙ forced_stays l w un ks rest.1
    where
      go : (k ≡ l) ⊎ False k → joined V m (Forced l) k ≡ Forced l
      go (inl e) = ap (joined V m (Forced l)) e ∙ joined_unset (Forced l) l w un ∙ ap (λ b. cond b (Forced l) Slack) (same_refl l)
      go (inr f) = joined_false (Forced l) k f

  one_read : (l : ℤ) → Within V l → value m l ≡ None → (c : Clause) → In l c → Rest c l → reading V m Conflict c ≡ Forced l
  one_read l w un [] here rest = absurd here
  one_read l w un (k ∷ ks) here rest = go here rest.0 (λ h. one_read l w un ks h rest.1)
    where
      first : k ≡ l → reading V m Conflict (k ∷ ks) ≡ Forced l
      first e =
          ap (λ r. reading V m r ks) (ap (joined V m Conflict) e ∙ joined_unset Conflict l w un) ∙ forced_stays l w un ks rest.1

      go : (k ≡ l) ⊎ In l ks → (k ≡ l) ⊎ False k → (In l ks → reading V m Conflict ks ≡ Forced l) → reading V m Conflict (k ∷ ks) ≡ Forced l
      go here' (inl e) later = first e
      go (inl e) (inr f) later = first e
      go (inr h) (inr f) later = ap (λ r. reading V m r ks) (joined_false Conflict k f) ∙ later h

  said_at_first : (c : Clause) (l : ℤ) → Said c l Conflict → OneUnset V m c l
  said_at_first c l (inl s) = absurd (forced_conflict l (sym s.0))
  said_at_first c l (inr s) = s.1

  -- ---- the three readings of a clause

  module _ (c : Clause) where
    pub conflict_false : reading V m Conflict c ≡ Conflict → AllFalse V m c
    conflict_false e = (conflict_read c Conflict e).1

    pub false_conflict : AllFalse V m c → reading V m Conflict c ≡ Conflict
    false_conflict all = reading_false c Conflict all

    pub forced_one : (l : ℤ) → reading V m Conflict c ≡ Forced l → OneUnset V m c l
    forced_one l e = said_at_first c l (forced_read c l Conflict e)

    pub one_forced : (l : ℤ) → OneUnset V m c l → reading V m Conflict c ≡ Forced l
    one_forced l o = one_read l o.0 o.1 c o.2 o.3

    pub slack_neither : reading V m Conflict c ≡ Slack → Neither V m c
    slack_neither e = (λ all. slack_conflict (sym e ∙ false_conflict all), λ l o. slack_forced l (sym e ∙ one_forced l o))

    pub neither_slack : Neither V m c → reading V m Conflict c ≡ Slack
    neither_slack n = go (reading V m Conflict c) refl
      where
        go : (r : Reading) → reading V m Conflict c ≡ r → r ≡ Slack
        go Conflict e = absurd (n.0 (conflict_false e))
        go (Forced l) e = absurd (n.1 l (forced_one l e))
        go Slack e = refl

pub reading_in_words : ReadingInWords
reading_in_words V m c =
    ((conflict_false V m c, false_conflict V m c), λ l. (forced_one V m c l, one_forced V m c l), (slack_neither V m c, neither_slack V m c))
