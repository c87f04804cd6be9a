-- What a list of hints is answered, in words.
use Rattle.std.proofs.Common.{◌≡◌, ℕ, true, ◌⊎◌, List, [], ◌∷◌, Some, None, Ok, Err, Option, sym, refl, ap, ◌∙◌, inl, inr}
use Rattle.refusals.specs.declared.Refusal.TheVariants as refusal
use Rattle.clauses.specs.Clauses.{Clause}
use Rattle.hints.specs.declared.Reading.{Reading}
use Rattle.hints.specs.declared.Reading.TheVariants.{Conflict, Forced, Slack}
use Rattle.hints.specs.Hints.{Verdict, Marks, assign, reading, by_reading, by_hint, by_hints}
use Rattle.refutations.specs.Words.{Forces, AllForce, Stops, InConflict, IsSlack, HintsInWords}
use Rattle.refutations.proofs.Clauses.{conflict_false, false_conflict, forced_one, one_forced, slack_neither, neither_slack}

-- ---- one hint, where `next` answers the later ones

module _ (V : ℕ) (m : Marks) where
  -- it forces, or else it is answered for what it names
  abbrev Answered : Option Clause → (Marks → Verdict) → Verdict → Type 0
  Answered o next a =
      Forces V m o (λ m'. next m' ≡ a)
      ⊎ (((a ≡ Ok tt) × InConflict V m o) ⊎ (((a ≡ Err refusal.Absent) × (o ≡ None)) ⊎ ((a ≡ Err refusal.Slack) × IsSlack V m o)))

  answered : (o : Option Clause) (next : Marks → Verdict) (a : Verdict) → by_hint V o m next ≡ a → Answered o next a
  answered None next a e = inr (inr (inl (sym e, refl)))
  answered (Some c) next a e = go (reading V m Conflict c) refl e
    where
      go : (r : Reading) → reading V m Conflict c ≡ r → by_reading r m next ≡ a → Answered (Some c) next a
      go Conflict q e' = inr (inl (sym e', (c, refl, conflict_false V m c q)))
      go (Forced l) q e' = inl (c, l, refl, forced_one V m c l q, e')
      go Slack q e' = inr (inr (inr (sym e', (c, refl, slack_neither V m c q))))

  module _ (o : Option Clause) (next : Marks → Verdict) where
    by_clause : (c : Clause) (r : Reading) → o ≡ Some c → reading V m Conflict c ≡ r → by_hint V o m next ≡ by_reading r m next
    by_clause c r e q = ap (λ x. by_hint V x m next) e ∙ ap (λ s. by_reading s m next) q

    goes_on : (a : Verdict) → Forces V m o (λ m'. next m' ≡ a) → by_hint V o m next ≡ a
    goes_on a (c, l, e, one, later) = by_clause c (Forced l) e (one_forced V m c l one) ∙ later

    taken : InConflict V m o → by_hint V o m next ≡ Ok tt
    taken (c, e, all) = by_clause c Conflict e (false_conflict V m c all)

    absent : o ≡ None → by_hint V o m next ≡ Err refusal.Absent
    absent e = ap (λ x. by_hint V x m next) e

    slack : IsSlack V m o → by_hint V o m next ≡ Err refusal.Slack
    slack (c, e, neither) = by_clause c Slack e (neither_slack V m c neither)

-- ---- a list of hints

forces_more : (V : ℕ) (m : Marks) (o : Option Clause) (P Q : Marks → Type 0) → ((m' : Marks) → P m' → Q m') → Forces V m o P → Forces V m o Q
forces_more V m o P Q more (c, l, e, one, p) = (c, l, e, one, more (assign m l true) p)

module _ (V : ℕ) (clauses : ℕ → Option Clause) where
  -- an answer that is given exactly where P holds
  module _ (a : Verdict) (P : Marks → Option Clause → Type 0)
      (not-loose : Err refusal.Loose ≡ a → ⊥)
      (told : (m : Marks) (o : Option Clause) (next : Marks → Verdict) → Answered V m o next a → P m o ⊎ Forces V m o (λ m'. next m' ≡ a))
      (given : (m : Marks) (o : Option Clause) (next : Marks → Verdict) → P m o → by_hint V o m next ≡ a) where
    stops : (hs : List ℕ) (m : Marks) → by_hints V clauses m hs ≡ a → Stops V clauses P m hs
    stops [] m e = not-loose e
    stops (h ∷ hs) m e = go (stops hs) (told m (clauses h) next (answered V m (clauses h) next a e))
      where
        next : Marks → Verdict
        next m' = by_hints V clauses m' hs

        go : ((m' : Marks) → next m' ≡ a → Stops V clauses P m' hs) → P m (clauses h) ⊎ Forces V m (clauses h) (λ m'. next m' ≡ a)
            → Stops V clauses P m (h ∷ hs)
        go later (inl p) = inl p
        go later (inr f) = inr (forces_more V m (clauses h) (λ m'. next m' ≡ a) (λ m'. Stops V clauses P m' hs) later f)

    stopped : (hs : List ℕ) (m : Marks) → Stops V clauses P m hs → by_hints V clauses m hs ≡ a
    stopped [] m s = absurd s
    stopped (h ∷ hs) m s = go (stopped hs) s
      where
        next : Marks → Verdict
        next m' = by_hints V clauses m' hs

        go : ((m' : Marks) → Stops V clauses P m' hs → next m' ≡ a) → Stops V clauses P m (h ∷ hs) → by_hints V clauses m (h ∷ hs) ≡ a
        go later (inl p) = given m (clauses h) next p
        go later (inr f) =
            goes_on V m (clauses h) next a (forces_more V m (clauses h) (λ m'. Stops V clauses P m' hs) (λ m'. next m' ≡ a) later f)

  -- no hint is answered as loose
  all_force : (hs : List ℕ) (m : Marks) → by_hints V clauses m hs ≡ Err refusal.Loose → AllForce V clauses m hs
  all_force [] m e = tt
  all_force (h ∷ hs) m e = go (all_force hs) (answered V m (clauses h) next (Err refusal.Loose) e)
    where
      next : Marks → Verdict
      next m' = by_hints V clauses m' hs

      go : ((m' : Marks) → next m' ≡ Err refusal.Loose → AllForce V clauses m' hs) → Answered V m (clauses h) next (Err refusal.Loose)
          → AllForce V clauses m (h ∷ hs)
      go later (inl f) = forces_more V m (clauses h) (λ m'. next m' ≡ Err refusal.Loose) (λ m'. AllForce V clauses m' hs) later f
      go later (inr (inl x)) = cc x.0
      go later (inr (inr (inl x))) = cc x.0
      go later (inr (inr (inr x))) = cc x.0

  loose : (hs : List ℕ) (m : Marks) → AllForce V clauses m hs → by_hints V clauses m hs ≡ Err refusal.Loose
  loose [] m all = refl
  loose (h ∷ hs) m all =
      goes_on V m (clauses h) (λ m'. by_hints V clauses m' hs) (Err refusal.Loose)
      (forces_more V m (clauses h) (λ m'. AllForce V clauses m' hs) (λ m'. by_hints V clauses m' hs ≡ Err refusal.Loose) (loose hs) all)

module _ (V : ℕ) (m : Marks) (o : Option Clause) (next : Marks → Verdict) where
  told_taken : Answered V m o next (Ok tt) → InConflict V m o ⊎ Forces V m o (λ m'. next m' ≡ Ok tt)
  told_taken (inl f) = inr f
  told_taken (inr (inl x)) = inl x.1
  told_taken (inr (inr (inl x))) = cc x.0
  told_taken (inr (inr (inr x))) = cc x.0

  told_absent : Answered V m o next (Err refusal.Absent) → (o ≡ None) ⊎ Forces V m o (λ m'. next m' ≡ Err refusal.Absent)
  told_absent (inl f) = inr f
  told_absent (inr (inl x)) = cc x.0
  told_absent (inr (inr (inl x))) = inl x.1
  told_absent (inr (inr (inr x))) = cc x.0

  told_slack : Answered V m o next (Err refusal.Slack) → IsSlack V m o ⊎ Forces V m o (λ m'. next m' ≡ Err refusal.Slack)
  told_slack (inl f) = inr f
  told_slack (inr (inl x)) = cc x.0
  told_slack (inr (inr (inl x))) = cc x.0
  told_slack (inr (inr (inr x))) = inl x.1

loose_taken : ◌≡◌ {A = Verdict} (Err refusal.Loose) (Ok tt) → ⊥
loose_taken e = cc

loose_absent : ◌≡◌ {A = Verdict} (Err refusal.Loose) (Err refusal.Absent) → ⊥
loose_absent e = cc

loose_slack : ◌≡◌ {A = Verdict} (Err refusal.Loose) (Err refusal.Slack) → ⊥
loose_slack e = cc

pub hints_in_words : HintsInWords
hints_in_words V clauses m hs = (
  (
    stops V clauses (Ok tt) (InConflict V) loose_taken (told_taken V) (taken V) hs m,
    stopped V clauses (Ok tt) (InConflict V) loose_taken (told_taken V) (taken V) hs m,
  ),
  (
    stops V clauses (Err refusal.Absent) (λ m' o. o ≡ None) loose_absent (told_absent V) (absent V) hs m,
    stopped V clauses (Err refusal.Absent) (λ m' o. o ≡ None) loose_absent (told_absent V) (absent V) hs m,
  ),
  (
    stops V clauses (Err refusal.Slack) (IsSlack V) loose_slack (told_slack V) (slack V) hs m,
    stopped V clauses (Err refusal.Slack) (IsSlack V) loose_slack (told_slack V) (slack V) hs m,
  ),
  (all_force V clauses hs m, loose V clauses hs m),
)
