-- The law stands.
use Rattle.std.proofs.Common.{◌≡◌, ℕ, ◌↔◌, List, [], length, Some, sym, refl, ap, ◌∙◌, subst, ⊎_elim, le_refl}
use Rattle.boards.specs.Sheets.{Sheet, sheet_of, closing}
use Rattle.formulas.specs.Formulas.{base, step, base_variables, step_variables}
use Rattle.formulas.proofs.Overs.{base_over}
use Rattle.formulas.specs.declared.kind.FormulaKind.TheVariants as kind
use Rattle.sources.specs.Meaning.{formula_clauses, formula_variables}
use Rattle.solutions.proofs.Frames.{frame, frame_is, bad_or_good}
use Rattle.induction.proofs.BaseFrom.{base_says}
use Rattle.induction.proofs.Never.{step_says}
use Rattle.refutations.specs.Claims.{Unsatisfiable}
use Rattle.refutations.specs.Refuting.{Item, Refuting}
use Rattle.refutations.proofs.Listed.{listed_refuted}
use Rattle.refutations.proofs.Complete.{refuted_listed}
use Rattle.refuting.specs.Judging.{progress}
use Rattle.acceptance.proofs.Whole.{taken_whole}
use Rattle.stages.specs.declared.Stage.TheVariants as stage
use Rattle.histories.specs.Cases.{State, state, Room, new, Call, close, pass, judge, replayed}
use Rattle.histories.specs.Law.{last_taken, AlwaysGood, NoneBad, Takes, Law}
use Rattle.histories.proofs.Judged.{accepted_leads}
use Rattle.histories.proofs.Calls.{calls_keep, last_leads}
use Rattle.histories.proofs.Stages.{draw_shown, close_at, pass_at, safe_drawn, drawn_or_not}
use Rattle.histories.proofs.Drawn.{Closed, call_draws, drawn, closed_board}
use Rattle.histories.proofs.Shows.{Closes, shows, show_exists}
use Rattle.histories.proofs.Offered.{refutes_ends, take}
use Rattle.histories.proofs.Invariant.{Inv, InvAt, judge_keeps}

-- ---- a closed board

module _ (b : Sheet) (closed : Closed b) where
  none_bad : Unsatisfiable (formula_clauses kind.Base b) → NoneBad b
  none_bad unsat rows run bad =
      let s = (base_says b.gates b.property b.depth closed.own closed.property).1 (rows, run, bad) in
      unsat s.0 s.1

  always_good : Unsatisfiable (formula_clauses kind.Base b) → Unsatisfiable (formula_clauses kind.Step b) → AlwaysGood b
  always_good base-unsat step-unsat rows run k some l =
      let f = frame b.gates rows k in
      let is = frame_is b.gates closed.own rows k in
      ⊎_elim
      (λ bad. absurd (step_says b.gates b.property b.depth closed.own closed.property (none_bad base-unsat) step-unsat rows run k (some, l, (f, is, bad))))
      (λ good. (f, is, good))
      (bad_or_good b.gates b.property f)

  listed : NoneBad b ↔ ((items : List Item) × Refuting (base_variables b.gates b.depth) (base b.gates b.property b.depth) items)
  listed =
      let V = base_variables b.gates b.depth in
      let F = base b.gates b.property b.depth in (
        λ none. refuted_listed V F (base_over b.gates b.property b.depth closed.own closed.property)
            (λ v s. let r = (base_says b.gates b.property b.depth closed.own closed.property).0 (v, s) in none r.0 r.1 r.2),
        λ items. none_bad (listed_refuted V F items),
      )

-- ---- right after a close, and right after a pass

module _ (room : Room) where
  abbrev BaseTaken : State → Type 0
  BaseTaken s = Takes room s (base_variables s.board.gates s.board.depth) (base s.board.gates s.board.property s.board.depth) stage.BaseDone

  abbrev StepTaken : State → Type 0
  StepTaken s = Takes room s (step_variables s.board.gates s.board.depth) (step s.board.gates s.board.property s.board.depth) stage.Safe

  base_fresh : (b : Sheet) → BaseTaken (state b stage.Base (progress (length (formula_clauses kind.Base b)) []))
  base_fresh b items r numbers costs =
      let V = formula_variables kind.Base b in
      let F = formula_clauses kind.Base b in
      take room b stage.Base stage.BaseDone refl refl refl V items (progress (length F) []) (refutes_ends V (length F) items _ (length F) r)
      (taken_whole V F room.capacity room.cost V (le_refl V) items r numbers costs)

  step_fresh : (b : Sheet) → StepTaken (state b stage.Step (progress (length (formula_clauses kind.Step b)) []))
  step_fresh b items r numbers costs =
      let V = formula_variables kind.Step b in
      let F = formula_clauses kind.Step b in
      take room b stage.Step stage.Safe refl refl refl V items (progress (length F) []) (refutes_ends V (length F) items _ (length F) r)
      (taken_whole V F room.capacity room.cost V (le_refl V) items r numbers costs)

  base_after : (calls : List Call) → (p d : ℕ) → last_taken calls (replayed room calls).0 ≡ Some (close p d) → BaseTaken (replayed room calls).1
  base_after calls p d e =
      let l = last_leads room (Inv room) (judge_keeps room) calls new refl (close p d) e in
      let s = l.0 in
      let a = accepted_leads room s (close p d) l.3 in
      let at = close_at s.stage a.0 a.1 in
      let none : s.progress ≡ progress 0 [] = subst (λ z. InvAt room z s.board s.progress) at.0 l.1 in
      let b = sheet_of s.board.gates p d in
      let C = length (formula_clauses kind.Base b) in
      let is : (replayed room calls).1 ≡ state b stage.Base (progress C []) =
      l.2 ∙ ap (λ z. z.1) a.2.1 ∙ ap (λ t. state b t (progress C s.progress.lines)) at.1 ∙ ap (λ z. state b stage.Base (progress C z.lines)) none in
      subst BaseTaken (sym is) (base_fresh b)

  step_after : (calls : List Call) → last_taken calls (replayed room calls).0 ≡ Some pass → StepTaken (replayed room calls).1
  step_after calls e =
      let l = last_leads room (Inv room) (judge_keeps room) calls new refl pass e in
      let s = l.0 in
      let a = accepted_leads room s pass l.3 in
      let at = pass_at s.stage a.0 a.1 in
      let C = length (formula_clauses kind.Step s.board) in
      let is : (replayed room calls).1 ≡ state s.board stage.Step (progress C []) =
      l.2 ∙ ap (λ z. z.1) a.2 ∙ ap (λ t. state s.board t (progress C [])) at.1 in
      subst StepTaken (sym is) (step_fresh s.board)

  -- ---- the law

  closes_new : Closes new
  closes_new h = absurd (h refl)

  closes_keeps : (s : State) (c : Call) → Closes s → Closes (judge room s c).1
  closes_keeps s c closes h =
      let d = call_draws room s c in
      ⊎_elim (λ e. d.closed_now e h) (λ n. ap closing (d.stays n).1 ∙ closes n) (drawn_or_not s.stage)

  inv : (calls : List Call) → Inv room (replayed room calls).1
  inv calls = calls_keep room (Inv room) (judge_keeps room) calls new refl

  pub law_stands : (calls : List Call) → Law room calls
  law_stands calls = record {
    drawn = drawn room calls;
    safe = λ e.
        let s = (replayed room calls).1 in
        let i = subst (λ z. InvAt room z s.board s.progress) e (inv calls) in
        always_good s.board (closed_board room calls (λ d. safe_drawn (sym e ∙ d))) i.0 i.1;
    show_taken = λ e. show_exists room calls new draw_shown e;
    shows_bad = λ bytes k w t. shows room closes_keeps calls new closes_new bytes k w t;
    refutable = λ h. listed (replayed room calls).1.board (closed_board room calls h);
    base_taken = λ p d e. base_after calls p d e;
    step_taken = λ e. step_after calls e;
  }
