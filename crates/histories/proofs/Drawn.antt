-- The board of a case is what the accepted calls drew.
use Rattle.std.proofs.Common.{◌≡◌, ℕ, ◌<◌, ◌≤◌, Bool, true, false, cond, ◌&&◌, ltb, leb, ◌≢◌, List, [], ◌∷◌, ◌++◌, map, length, Some, None, Option, sym, refl, ap, ◌∙◌, subst, ⊎_elim, append_assoc, append-nil}
use mathlib.Core.List.{map-append}
use Rattle.std.proofs.lemmas.Bool.{and_parts, ltb-true, leb-true}
use Rattle.refusals.specs.declared.Refusal.{Refusal}
use Rattle.refusals.specs.declared.Refusal.TheVariants as refusal
use Rattle.gates.specs.declared.gate.Gate.{Gate}
use Rattle.gates.specs.Gates.{named}
use Rattle.gates.specs.Records.{gate_in, record_of, Recorded}
use Rattle.gates.proofs.FirstRecord.{recorded}
use Rattle.boards.specs.Sheets.{Sheet, closing}
use Rattle.solutions.specs.Claims.{Named}
use Rattle.std.proofs.lemmas.Option.{none-some}
use Rattle.stages.specs.declared.Stage.{Stage}
use Rattle.stages.specs.declared.Stage.TheVariants as stage
use Rattle.histories.specs.Cases.{State, Room, new, Call, add, close, line, strike, pass, show, Outcome, judge, calls_from, replayed}
use Rattle.histories.specs.Law.{taken, added, records, closed, closes, Drawn}
use Rattle.histories.proofs.Judged.{judged, accepts_taken, TakesCall}
use Rattle.histories.proofs.Stages.{add_at, close_at, line_at, empty_at, strike_at, pass_at, show_at, drawn_or_not, base_drawn, base_done_drawn, step_drawn, safe_drawn, shown_drawn}

-- ---- a closed board

pub record Closed (b : Sheet) : Type 0 where
  pub own : Named b.gates
  pub property : b.property < length b.gates
  pub deep : 1 ≤ b.depth
  pub shallow : b.depth ≤ 8

pub closed_is : (b : Sheet) → closing b ≡ None → Closed b
closed_is b e = go (leb 1 b.depth && leb b.depth 8) refl (ltb b.property (length b.gates) && named (length b.gates) b.gates) refl e
  where
    go : (x : Bool) → (leb 1 b.depth && leb b.depth 8) ≡ x → (y : Bool) → (ltb b.property (length b.gates) && named (length b.gates) b.gates) ≡ y
        → ◌≡◌ {A = Option Refusal} (cond x (cond y None (Some refusal.Wire)) (Some refusal.Depth)) None → Closed b
    go true p true q h =
        let deep = and_parts (leb 1 b.depth) (leb b.depth 8) p in
        let wires = and_parts (ltb b.property (length b.gates)) (named (length b.gates) b.gates) q in
        record {
          own = wires.1;
          property = ltb-true b.property (length b.gates) wires.0;
          deep = leb-true 1 b.depth deep.0;
          shallow = leb-true b.depth 8 deep.1;
        }
    go true p false q h = absurd (none-some refusal.Wire (sym h))
    go false p y q h = absurd (none-some refusal.Depth (sym h))

-- ---- one call

gate_recorded : (bytes : List ℕ) (g : Gate) → gate_in bytes ≡ Some g → record_of g ≡ bytes
gate_recorded bytes g e = sym (subst (Recorded bytes) e (recorded bytes))

-- what a call does to the board and to whether it is closed
pub record Draws (s : State) (records_of : List (List ℕ)) (closes_of : List (ℕ × ℕ)) (end : State) : Type 0 where
  pub gates : map record_of end.board.gates ≡ map record_of s.board.gates ++ records_of
  pub stays : s.stage ≢ stage.Draw → (closes_of ≡ []) × (end.board ≡ s.board) × (end.stage ≢ stage.Draw)
  pub drawing : s.stage ≡ stage.Draw → end.stage ≡ stage.Draw → closes_of ≡ []
  pub closing_once : s.stage ≡ stage.Draw → end.stage ≢ stage.Draw → closes_of ≡ (end.board.property, end.board.depth) ∷ []
  pub closed_now : s.stage ≡ stage.Draw → end.stage ≢ stage.Draw → closing end.board ≡ None

-- nothing is drawn, and the board stays
nothing : (s end : State) → end.board ≡ s.board → (s.stage ≡ stage.Draw → end.stage ≡ stage.Draw) → (s.stage ≢ stage.Draw → end.stage ≢ stage.Draw) → Draws s [] [] end
nothing s end b same other = record {
  gates = ap (λ z. map record_of z.gates) b ∙ sym (append-nil (map record_of s.board.gates));
  stays = λ h. (refl, b, other h);
  drawing = λ h e. refl;
  closing_once = λ h e. absurd (e (same h));
  closed_now = λ h e. absurd (e (same h));
}

-- from a closed board to a closed board
later : (s end : State) (t u : Stage) → s.stage ≡ t → t ≢ stage.Draw → end.stage ≡ u → u ≢ stage.Draw → end.board ≡ s.board → Draws s [] [] end
later s end t u p tp q uq b = nothing s end b (λ h. absurd (tp (sym p ∙ h))) (λ h e. uq (sym q ∙ e))

module _ (room : Room) (s : State) where
  draws : (c : Call) (r : Outcome) → TakesCall room s c r → Draws s (added c) (closed c) r.1
  draws (add bytes) r a =
      let at = add_at s.stage a.0 a.1 in
      let is = a.2.2 in
      let end-drawn : r.1.stage ≡ stage.Draw = ap (λ z. z.1.stage) is ∙ at.1 in
      record {
        gates = ap (λ z. map record_of z.1.board.gates) is ∙ map-append record_of s.board.gates (a.2.0 ∷ [])
            ∙ ap (λ x. map record_of s.board.gates ++ x ∷ []) (gate_recorded bytes a.2.0 a.2.1);
        stays = λ h. absurd (h at.0);
        drawing = λ h e. refl;
        closing_once = λ h e. absurd (e end-drawn);
        closed_now = λ h e. absurd (e end-drawn);
      }
  draws (close p d) r a =
      let at = close_at s.stage a.0 a.1 in
      let is = a.2.1 in
      let end-base : r.1.stage ≡ stage.Base = ap (λ z. z.1.stage) is ∙ at.1 in
      record {
        gates = ap (λ z. map record_of z.1.board.gates) is ∙ sym (append-nil (map record_of s.board.gates));
        stays = λ h. absurd (h at.0);
        drawing = λ h e. absurd (base_drawn (sym end-base ∙ e));
        closing_once = λ h e. sym (ap (λ z. (z.1.board.property, z.1.board.depth) ∷ []) is);
        closed_now = λ h e. ap (λ z. closing z.1.board) is ∙ a.2.0;
      }
  draws (line marks n [] hints) r a =
      let is = a.2.1 in
      ⊎_elim
      (λ at. later s r.1 stage.Base stage.BaseDone at.0 base_drawn (ap (λ z. z.1.stage) is ∙ at.1) base_done_drawn (ap (λ z. z.1.board) is))
      (λ at. later s r.1 stage.Step stage.Safe at.0 step_drawn (ap (λ z. z.1.stage) is ∙ at.1) safe_drawn (ap (λ z. z.1.board) is))
      (empty_at s.stage a.0 a.1)
  draws (line marks n (l ∷ ls) hints) r a =
      let is = a.2.1 in
      ⊎_elim
      (λ at. later s r.1 stage.Base stage.Base at.0 base_drawn (ap (λ z. z.1.stage) is ∙ at.1) base_drawn (ap (λ z. z.1.board) is))
      (λ at. later s r.1 stage.Step stage.Step at.0 step_drawn (ap (λ z. z.1.stage) is ∙ at.1) step_drawn (ap (λ z. z.1.board) is))
      (line_at s.stage a.0 a.1)
  draws (strike n) r a =
      let is = a.2.1 in
      ⊎_elim
      (λ at. later s r.1 stage.Base stage.Base at.0 base_drawn (ap (λ z. z.1.stage) is ∙ at.1) base_drawn (ap (λ z. z.1.board) is))
      (λ at. later s r.1 stage.Step stage.Step at.0 step_drawn (ap (λ z. z.1.stage) is ∙ at.1) step_drawn (ap (λ z. z.1.board) is))
      (strike_at s.stage a.0 a.1)
  draws pass r a =
      let at = pass_at s.stage a.0 a.1 in
      let is = a.2 in
      later s r.1 stage.BaseDone stage.Step at.0 base_done_drawn (ap (λ z. z.1.stage) is ∙ at.1) step_drawn (ap (λ z. z.1.board) is)
  draws (show work bytes) r a =
      let at = show_at s.stage a.0 a.1 in
      let is = a.2.1 in
      later s r.1 stage.Base stage.Shown at.0 base_drawn (ap (λ z. z.1.stage) is ∙ at.1) shown_drawn (ap (λ z. z.1.board) is)

  pub call_draws : (c : Call) → Draws s (cond (taken (judge room s c).0) (added c) []) (cond (taken (judge room s c).0) (closed c) []) (judge room s c).1
  call_draws c = ⊎_elim
      (λ e. subst (λ r. Draws s (cond (taken r.0) (added c) []) (cond (taken r.0) (closed c) []) r.1) (sym e.1) (nothing s s refl (λ h. h) (λ h. h)))
      (λ a. let t = accepts_taken room s a.0 c (judge room s c) a.2 in
      subst (λ b. Draws s (cond b (added c) []) (cond b (closed c) []) (judge room s c).1) (sym t) (draws c (judge room s c) a))
      (judged room s c)

-- ---- a list of calls

joined : (s m e : State) (r₁ r₂ : List (List ℕ)) (c₁ c₂ : List (ℕ × ℕ)) → Draws s r₁ c₁ m → Draws m r₂ c₂ e → Draws s (r₁ ++ r₂) (c₁ ++ c₂) e
joined s m e r₁ r₂ c₁ c₂ p q = record {
  gates = q.gates ∙ ap (λ x. x ++ r₂) p.gates ∙ append_assoc (map record_of s.board.gates) r₁ r₂;
  stays = λ h. let a = p.stays h in let b = q.stays a.2 in (ap (λ x. x ++ c₂) a.0 ∙ b.0, b.1 ∙ a.1, b.2);
  drawing = λ h k. ⊎_elim
      (λ d. ap (λ x. x ++ c₂) (p.drawing h d) ∙ q.drawing d k)
      (λ d. absurd ((q.stays d).2 k))
      (drawn_or_not m.stage);
  closing_once = λ h k. ⊎_elim
      (λ d. ap (λ x. x ++ c₂) (p.drawing h d) ∙ q.closing_once d k)
      (λ d. let b = q.stays d in
      ap (λ x. c₁ ++ x) b.0 ∙ append-nil c₁ ∙ p.closing_once h d ∙ ap (λ z. (z.property, z.depth) ∷ []) (sym b.1))
      (drawn_or_not m.stage);
  closed_now = λ h k. ⊎_elim
      (λ d. q.closed_now d k)
      (λ d. ap closing (q.stays d).1 ∙ p.closed_now h d)
      (drawn_or_not m.stage);
}

module _ (room : Room) where
  pub calls_draw : (calls : List Call) (s : State) → Draws s (records calls (calls_from room s calls).0) (closes calls (calls_from room s calls).0) (calls_from room s calls).1
  calls_draw [] s = nothing s s refl (λ h. h) (λ h. h)
  calls_draw (c ∷ calls) s = joined s (judge room s c).1 (calls_from room (judge room s c).1 calls).1 _ _ _ _ (call_draws room s c) (calls_draw calls (judge room s c).1)

  pub drawn : (calls : List Call) → Drawn calls (replayed room calls).0 (replayed room calls).1.board (replayed room calls).1.stage
  drawn calls = let d = calls_draw calls new in (d.gates, d.drawing refl, d.closing_once refl)

  -- a case that is no longer drawn has a closed board
  pub closed_board : (calls : List Call) → (replayed room calls).1.stage ≢ stage.Draw → Closed (replayed room calls).1.board
  closed_board calls h = closed_is (replayed room calls).1.board ((calls_draw calls new).closed_now refl h)
