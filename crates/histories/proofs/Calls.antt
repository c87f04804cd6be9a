-- Lists of calls, and what they leave where every call keeps it.
use Rattle.std.proofs.Common.{◌≡◌, Bool, true, false, cond, List, [], ◌∷◌, ◌++◌, Some, None, Option, sym, refl, ap, ◌∙◌, subst}
use Rattle.std.proofs.lemmas.Option.{none-some}
use Rattle.histories.specs.Cases.{State, Room, Call, judge, calls_from}
use Rattle.histories.specs.Law.{taken, later_or, last_taken}
use Rattle.histories.proofs.Judged.{refused_same}

-- more calls go on from where the first ones led
pub go_on : (room : Room) (calls more : List Call) (s : State)
    → ((calls_from room s (calls ++ more)).0 ≡ (calls_from room s calls).0 ++ (calls_from room (calls_from room s calls).1 more).0)
    × ((calls_from room s (calls ++ more)).1 ≡ (calls_from room (calls_from room s calls).1 more).1)
go_on room [] more s = (refl, refl)
go_on room (c ∷ calls) more s = let r = go_on room calls more (judge room s c).1 in (ap (λ xs. (judge room s c).0 ∷ xs) r.0, r.1)

-- ---- the last call that was not refused

none_later : (o x : Option Call) → later_or o x ≡ None → (o ≡ None) × (x ≡ None)
none_later None x e = (refl, e)
none_later (Some c) x e = absurd (none-some c (sym e))

not_taken : (b : Bool) (c : Call) → ◌≡◌ {A = Option Call} (cond b (Some c) None) None → b ≡ false
not_taken true c e = absurd (none-some c (sym e))
not_taken false c e = refl

was_taken : (b : Bool) (c k : Call) → cond b (Some c) None ≡ Some k → (b ≡ true) × (c ≡ k)
was_taken true c k e = let h : c ≡ k = cc in (refl, h)
was_taken false c k e = absurd (none-some k e)

module _ (room : Room) where
  pub none_taken : (calls : List Call) (s : State) → last_taken calls (calls_from room s calls).0 ≡ None → (calls_from room s calls).1 ≡ s
  none_taken [] s e = refl
  none_taken (c ∷ calls) s e =
      let q = none_later (last_taken calls (calls_from room (judge room s c).1 calls).0) (cond (taken (judge room s c).0) (Some c) None) e in
      none_taken calls (judge room s c).1 q.0 ∙ refused_same room s c (not_taken (taken (judge room s c).0) c q.1)

  -- what every call keeps holds wherever calls lead
  module _ (Inv : State → Type 0) (keeps : (s : State) (c : Call) → Inv s → Inv (judge room s c).1) where
    pub calls_keep : (calls : List Call) (s : State) → Inv s → Inv (calls_from room s calls).1
    calls_keep [] s inv = inv
    calls_keep (c ∷ calls) s inv = calls_keep calls (judge room s c).1 (keeps s c inv)

    -- the end is where the last call that was not refused led, from a state that was reached
    abbrev pub Led : Call → State → Type 0
    Led c end = (s : State) × Inv s × (end ≡ (judge room s c).1) × (taken (judge room s c).0 ≡ true)

    pub last_leads : (calls : List Call) (s : State) → Inv s → (c : Call) → last_taken calls (calls_from room s calls).0 ≡ Some c → Led c (calls_from room s calls).1
    last_leads [] s inv c e = absurd (none-some c e)
    last_leads (x ∷ calls) s inv c e =
        go (last_taken calls (calls_from room (judge room s x).1 calls).0) refl e
        (λ k q. last_leads calls (judge room s x).1 (keeps s x inv) k q)
      where
        go : (o : Option Call) → last_taken calls (calls_from room (judge room s x).1 calls).0 ≡ o → later_or o (cond (taken (judge room s x).0) (Some x) None) ≡ Some c
            → ((k : Call) → last_taken calls (calls_from room (judge room s x).1 calls).0 ≡ Some k → Led k (calls_from room (judge room s x).1 calls).1)
            → Led c (calls_from room (judge room s x).1 calls).1
        go None q e' later =
            let t = was_taken (taken (judge room s x).0) x c e' in
            subst (λ k. Led k (calls_from room (judge room s x).1 calls).1) t.1 (s, inv, none_taken calls (judge room s x).1 q, t.0)
        go (Some k) q e' later = later c (q ∙ e')
