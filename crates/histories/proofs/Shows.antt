-- An accepted show shows a bad run.
use Rattle.std.proofs.Common.{◌≡◌, ℕ, true, ◌≢◌, ◌⊎◌, List, [], ◌∷◌, None, Ok, sym, refl, ap, ◌∙◌, subst, inl, inr, ⊎_elim}
use Rattle.std.proofs.lemmas.Bool.{and_parts}
use Rattle.boards.specs.Sheets.{Sheet, closing}
use Rattle.clauses.specs.Clauses.{Clause, Valuation, Satisfies}
use Rattle.formulas.specs.Formulas.{base}
use Rattle.induction.proofs.BaseTo.{base_shows}
use Rattle.stages.specs.declared.Stage.{Stage}
use Rattle.stages.specs.declared.Stage.TheVariants as stage
use Rattle.stages.specs.Stages.{after}
use Rattle.histories.specs.declared.Reply.TheVariants.{Shown}
use Rattle.histories.specs.Shown.{valuation, satisfies, shown_run, first_bad}
use Rattle.histories.specs.Cases.{Answer, State, Room, Call, add, close, line, strike, pass, show, event_of, Outcome, judge_call, by_stage, judge, calls_from}
use Rattle.histories.specs.Law.{taken, ShowTaken, ShowsBad}
use Rattle.histories.proofs.ShownRuns.{first_is_bad}
use Rattle.histories.proofs.Judged.{judged, accepted_leads, TakesCall}
use Rattle.histories.proofs.Stages.{add_at, close_at, line_at, empty_at, strike_at, pass_at, show_at, base_drawn, draw_shown, base_shown, base_done_shown, step_shown, safe_shown}
use Rattle.histories.proofs.Drawn.{Closed, closed_is}

satisfied : (v : Valuation) (cs : List Clause) → satisfies v cs ≡ true → Satisfies v cs
satisfied v [] e = tt
satisfied v (c ∷ cs) e = let q = and_parts _ (satisfies v cs) e in (q.0, satisfied v cs q.1)

-- a valuation that satisfies the base formula of a closed board
shows_first : (b : Sheet) → Closed b → (bytes : List ℕ) → satisfies (valuation bytes) (base b.gates b.property b.depth) ≡ true
    → let bad = first_bad b.gates b.property b.depth (shown_run b.gates b.depth bytes) in ShowsBad b bytes bad.0 bad.1
shows_first b closed bytes e =
    let r = base_shows b.gates b.property b.depth closed.own closed.property (valuation bytes) (satisfied (valuation bytes) (base b.gates b.property b.depth) e) in
    let f = first_is_bad b.gates closed.own b.property b.depth closed.property (shown_run b.gates b.depth bytes) r.1 r.2 in
    (r.0, r.1, f.0, f.1)

-- ---- nothing is accepted after a show

stuck : (room : Room) (s : State) → s.stage ≡ stage.Shown → (c : Call) → (judge room s c).1 ≡ s
stuck room s e c = ap (λ o. (by_stage o s (λ t. judge_call room s t c)).1) (ap (λ t. after t (event_of c)) e)

stays : (room : Room) (calls : List Call) (s : State) → s.stage ≡ stage.Shown → (calls_from room s calls).1 ≡ s
stays room [] s e = refl
stays room (c ∷ calls) s e =
    let q = stuck room s e c in
    stays room calls (judge room s c).1 (ap (λ z. z.stage) q ∙ e) ∙ q

-- ---- one show

-- the board is closed once it is drawn
abbrev pub Closes : State → Type 0
Closes s = s.stage ≢ stage.Draw → closing s.board ≡ None

show_facts : (room : Room) (s : State) → Closes s → (work : ℕ) (bytes : List ℕ) (k w : ℕ) → (judge room s (show work bytes)).0 ≡ Ok (Shown k w)
    → ((judge room s (show work bytes)).1.stage ≡ stage.Shown) × ShowsBad (judge room s (show work bytes)).1.board bytes k w
show_facts room s closes work bytes k w e =
    let a = accepted_leads room s (show work bytes) (ap taken e) in
    let at = show_at s.stage a.0 a.1 in
    let is = a.2.1 in
    let b = s.board in
    let bad = first_bad b.gates b.property b.depth (shown_run b.gates b.depth bytes) in
    let same : Ok (Shown bad.0 bad.1) ≡ Ok (Shown k w) = sym (ap (λ z. z.0) is) ∙ e in
    let at-k : bad.0 ≡ k = cc same in
    let at-w : bad.1 ≡ w = cc same in
    let facts = shows_first b (closed_is b (closes (λ d. base_drawn (sym at.0 ∙ d)))) bytes a.2.0 in
    subst (λ r. (r.1.stage ≡ stage.Shown) × ShowsBad r.1.board bytes k w) (sym is)
    (at.1, subst (λ j. ShowsBad b bytes j w) at-k (subst (ShowsBad b bytes bad.0) at-w facts))

-- ---- a list of calls

module _ (room : Room) (keeps : (s : State) (c : Call) → Closes s → Closes (judge room s c).1) where
  pub shows : (calls : List Call) (s : State) → Closes s → (bytes : List ℕ) (k w : ℕ) → ShowTaken calls (calls_from room s calls).0 bytes k w
      → ShowsBad (calls_from room s calls).1.board bytes k w
  shows [] s inv bytes k w t = absurd t
  shows (c ∷ calls) s inv bytes k w (inr t) = shows calls (judge room s c).1 (keeps s c inv) bytes k w t
  shows (c ∷ calls) s inv bytes k w (inl t) =
      let f = subst (λ x. (judge room s x).0 ≡ Ok (Shown k w) → ((judge room s x).1.stage ≡ stage.Shown) × ShowsBad (judge room s x).1.board bytes k w) (sym t.1)
      (show_facts room s inv t.0 bytes k w) t.2 in
      subst (λ z. ShowsBad z.board bytes k w) (sym (stays room calls (judge room s c).1 f.0)) f.1

-- ---- the stage of a show is reached by a show alone

abbrev ByShow : Call → Answer → Type 0
ByShow c a = (bytes : List ℕ) × (k : ℕ) × (w : ℕ) × ((work : ℕ) × (c ≡ show work bytes) × (a ≡ Ok (Shown k w)))

abbrev Becomes : Call → Outcome → Type 0
Becomes c r = (r.1.stage ≢ stage.Shown) ⊎ ByShow c r.0

not_shown : (c : Call) (r : Outcome) (u : Stage) → r.1.stage ≡ u → u ≢ stage.Shown → Becomes c r
not_shown c r u e h = inl (λ q. h (sym e ∙ q))

becomes : (room : Room) (s : State) (c : Call) (r : Outcome) → TakesCall room s c r → Becomes c r
becomes room s (add bytes) r a = not_shown (add bytes) r stage.Draw (ap (λ z. z.1.stage) a.2.2 ∙ (add_at s.stage a.0 a.1).1) draw_shown
becomes room s (close p d) r a = not_shown (close p d) r stage.Base (ap (λ z. z.1.stage) a.2.1 ∙ (close_at s.stage a.0 a.1).1) base_shown
becomes room s (line marks n [] hints) r a = ⊎_elim
    (λ at. not_shown (line marks n [] hints) r stage.BaseDone (ap (λ z. z.1.stage) a.2.1 ∙ at.1) base_done_shown)
    (λ at. not_shown (line marks n [] hints) r stage.Safe (ap (λ z. z.1.stage) a.2.1 ∙ at.1) safe_shown)
    (empty_at s.stage a.0 a.1)
becomes room s (line marks n (l ∷ ls) hints) r a = ⊎_elim
    (λ at. not_shown (line marks n (l ∷ ls) hints) r stage.Base (ap (λ z. z.1.stage) a.2.1 ∙ at.1) base_shown)
    (λ at. not_shown (line marks n (l ∷ ls) hints) r stage.Step (ap (λ z. z.1.stage) a.2.1 ∙ at.1) step_shown)
    (line_at s.stage a.0 a.1)
becomes room s (strike n) r a = ⊎_elim
    (λ at. not_shown (strike n) r stage.Base (ap (λ z. z.1.stage) a.2.1 ∙ at.1) base_shown)
    (λ at. not_shown (strike n) r stage.Step (ap (λ z. z.1.stage) a.2.1 ∙ at.1) step_shown)
    (strike_at s.stage a.0 a.1)
becomes room s pass r a = not_shown pass r stage.Step (ap (λ z. z.1.stage) a.2 ∙ (pass_at s.stage a.0 a.1).1) step_shown
becomes room s (show work bytes) r a = inr (bytes, _, _, (work, refl, ap (λ z. z.0) a.2.1))

call_becomes : (room : Room) (s : State) → s.stage ≢ stage.Shown → (c : Call) → Becomes c (judge room s c)
call_becomes room s h c = ⊎_elim (λ r. inl (λ e. h (sym (ap (λ z. z.1.stage) r.1) ∙ e))) (λ a. becomes room s c (judge room s c) a) (judged room s c)

pub show_exists : (room : Room) (calls : List Call) (s : State) → s.stage ≢ stage.Shown → (calls_from room s calls).1.stage ≡ stage.Shown
    → (bytes : List ℕ) × (k : ℕ) × (w : ℕ) × ShowTaken calls (calls_from room s calls).0 bytes k w
show_exists room [] s h e = absurd (h e)
show_exists room (c ∷ calls) s h e = go (call_becomes room s h c) (λ n. show_exists room calls (judge room s c).1 n e)
  where
    go : Becomes c (judge room s c)
        → ((judge room s c).1.stage ≢ stage.Shown → (bytes : List ℕ) × (k : ℕ) × (w : ℕ) × ShowTaken calls (calls_from room (judge room s c).1 calls).0 bytes k w)
        → (bytes : List ℕ) × (k : ℕ) × (w : ℕ) × ShowTaken (c ∷ calls) (calls_from room s (c ∷ calls)).0 bytes k w
    go (inl n) next = let r = next n in (r.0, r.1, r.2, inr r.3)
    go (inr b) next = (b.0, b.1, b.2, inl b.3)
