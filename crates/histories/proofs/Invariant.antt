-- What every call keeps.
use Rattle.std.proofs.Common.{◌≡◌, ℕ, ◌⊎◌, List, [], ◌∷◌, ◌++◌, length, Ok, sym, refl, ap, subst, inl, inr, ⊎_elim}
use Rattle.boards.specs.Sheets.{Sheet, sheet_of}
use Rattle.formulas.specs.declared.kind.FormulaKind.{FormulaKind}
use Rattle.formulas.specs.declared.kind.FormulaKind.TheVariants as kind
use Rattle.sources.specs.Meaning.{formula_clauses, formula_variables}
use Rattle.refutations.specs.Claims.{Unsatisfiable}
use Rattle.refutations.specs.Refuting.{line as item_line, strike as item_strike}
use Rattle.refuting.specs.Judging.{Progress, progress, Judged, judge_line, judge_strike}
use Rattle.acceptance.specs.Claims.{Kept}
use Rattle.acceptance.proofs.Invariant.{kept_at_start, kept_stays}
use Rattle.stages.specs.declared.Stage.{Stage}
use Rattle.stages.specs.declared.Stage.TheVariants as stage
use Rattle.histories.specs.Cases.{State, Room, kind_at, formula_terms, terms_at, Call, add, close, line, strike, pass, show, Outcome, judge}
use Rattle.histories.proofs.Judged.{judged, TakesCall, ItemTaken}
use Rattle.histories.proofs.Stages.{GoesOn, add_at, close_at, line_at, empty_at, strike_at, pass_at, show_at}

module _ (room : Room) where
  -- how far the refutation of a formula of the board has come
  abbrev pub KeptAt : FormulaKind → Sheet → Progress → Type 0
  KeptAt k b p = Kept (formula_variables k b) (formula_clauses k b) room.capacity room.cost p

  abbrev pub Refuted : FormulaKind → Sheet → Type 0
  Refuted k b = Unsatisfiable (formula_clauses k b)

  abbrev pub InvAt : Stage → Sheet → Progress → Type 0
  InvAt stage.Draw b p = p ≡ progress 0 []
  InvAt stage.Base b p = KeptAt kind.Base b p
  InvAt stage.BaseDone b p = Refuted kind.Base b
  InvAt stage.Step b p = Refuted kind.Base b × KeptAt kind.Step b p
  InvAt stage.Safe b p = Refuted kind.Base b × Refuted kind.Step b
  InvAt stage.Shown b p = Unit {0}

  abbrev pub Inv : State → Type 0
  Inv s = InvAt s.stage s.board s.progress

  -- a line with literals, or a strike
  item_keeps : (s : State) (t : Stage) → (j : Stage → Judged) → GoesOn s.stage t
      → (KeptAt kind.Base s.board s.progress → KeptAt kind.Base s.board (j stage.Base).1)
      → (KeptAt kind.Step s.board s.progress → KeptAt kind.Step s.board (j stage.Step).1)
      → (r : Outcome) → ItemTaken s t (j s.stage) r → Inv s → Inv r.1
  item_keeps s t j (inl at) base step r a inv =
      let i : KeptAt kind.Base s.board s.progress = subst (λ z. InvAt z s.board s.progress) at.0 inv in
      let same : j stage.Base ≡ j s.stage = ap j (sym at.0) in
      subst (λ z. Inv z.1) (sym a.1) (subst (λ z. InvAt z s.board (j s.stage).1) (sym at.1) (subst (λ z. KeptAt kind.Base s.board z.1) same (base i)))
  item_keeps s t j (inr at) base step r a inv =
      let i : Refuted kind.Base s.board × KeptAt kind.Step s.board s.progress = subst (λ z. InvAt z s.board s.progress) at.0 inv in
      let same : j stage.Step ≡ j s.stage = ap j (sym at.0) in
      subst (λ z. Inv z.1) (sym a.1) (subst (λ z. InvAt z s.board (j s.stage).1) (sym at.1) (i.0, subst (λ z. KeptAt kind.Step s.board z.1) same (step i.1)))

  -- the empty line
  empty_keeps : (s : State) (t : Stage) (marks n : ℕ) (hints : List ℕ) → ((s.stage ≡ stage.Base) × (t ≡ stage.BaseDone)) ⊎ ((s.stage ≡ stage.Step) × (t ≡ stage.Safe))
      → (r : Outcome) → ItemTaken s t (judge_line (terms_at room s) s.progress marks n [] hints) r → Inv s → Inv r.1
  empty_keeps s t marks n hints (inl at) r a inv =
      let b = s.board in
      let p = s.progress in
      let i : KeptAt kind.Base b p = subst (λ z. InvAt z b p) at.0 inv in
      let ok : (judge_line (formula_terms room kind.Base b) p marks n [] hints).0 ≡ Ok tt = subst (λ z. (judge_line (formula_terms room (kind_at z) b) p marks n [] hints).0 ≡ Ok tt) at.0 a.0 in
      let none = (kept_stays (formula_variables kind.Base b) (formula_clauses kind.Base b) room.capacity room.cost p i marks (item_line n [] hints)).1 n hints refl ok in
      subst (λ z. Inv z.1) (sym a.1) (subst (λ z. InvAt z b (judge_line (terms_at room s) p marks n [] hints).1) (sym at.1) none)
  empty_keeps s t marks n hints (inr at) r a inv =
      let b = s.board in
      let p = s.progress in
      let i : Refuted kind.Base b × KeptAt kind.Step b p = subst (λ z. InvAt z b p) at.0 inv in
      let ok : (judge_line (formula_terms room kind.Step b) p marks n [] hints).0 ≡ Ok tt = subst (λ z. (judge_line (formula_terms room (kind_at z) b) p marks n [] hints).0 ≡ Ok tt) at.0 a.0 in
      let none = (kept_stays (formula_variables kind.Step b) (formula_clauses kind.Step b) room.capacity room.cost p i.1 marks (item_line n [] hints)).1 n hints refl ok in
      subst (λ z. Inv z.1) (sym a.1) (subst (λ z. InvAt z b (judge_line (terms_at room s) p marks n [] hints).1) (sym at.1) (i.0, none))

  accepted_keeps : (s : State) (c : Call) (r : Outcome) → TakesCall room s c r → Inv s → Inv r.1
  accepted_keeps s (add bytes) r a inv =
      let at = add_at s.stage a.0 a.1 in
      let i : s.progress ≡ progress 0 [] = subst (λ z. InvAt z s.board s.progress) at.0 inv in
      let b = sheet_of (s.board.gates ++ a.2.0 ∷ []) s.board.property s.board.depth in
      subst (λ z. Inv z.1) (sym a.2.2) (subst (λ z. InvAt z b s.progress) (sym at.1) i)
  accepted_keeps s (close p d) r a inv =
      let at = close_at s.stage a.0 a.1 in
      let i : s.progress ≡ progress 0 [] = subst (λ z. InvAt z s.board s.progress) at.0 inv in
      let b = sheet_of s.board.gates p d in
      let F = formula_clauses kind.Base b in
      subst (λ z. Inv z.1) (sym a.2.1) (subst (λ z. InvAt z b (progress (length F) s.progress.lines)) (sym at.1)
      (subst (λ z. KeptAt kind.Base b (progress (length F) z.lines)) (sym i) (kept_at_start (formula_variables kind.Base b) F room.capacity room.cost)))
  accepted_keeps s (line marks n [] hints) r a inv = empty_keeps s a.0 marks n hints (empty_at s.stage a.0 a.1) r a.2 inv
  accepted_keeps s (line marks n (l ∷ ls) hints) r a inv =
      let b = s.board in
      item_keeps s a.0 (λ z. judge_line (formula_terms room (kind_at z) b) s.progress marks n (l ∷ ls) hints) (line_at s.stage a.0 a.1)
      (λ i. (kept_stays (formula_variables kind.Base b) (formula_clauses kind.Base b) room.capacity room.cost s.progress i marks (item_line n (l ∷ ls) hints)).0)
      (λ i. (kept_stays (formula_variables kind.Step b) (formula_clauses kind.Step b) room.capacity room.cost s.progress i marks (item_line n (l ∷ ls) hints)).0)
      r a.2 inv
  accepted_keeps s (strike n) r a inv =
      let b = s.board in
      item_keeps s a.0 (λ z. judge_strike (formula_terms room (kind_at z) b) s.progress n) (strike_at s.stage a.0 a.1)
      (λ i. (kept_stays (formula_variables kind.Base b) (formula_clauses kind.Base b) room.capacity room.cost s.progress i 0 (item_strike n)).0)
      (λ i. (kept_stays (formula_variables kind.Step b) (formula_clauses kind.Step b) room.capacity room.cost s.progress i 0 (item_strike n)).0)
      r a.2 inv
  accepted_keeps s pass r a inv =
      let at = pass_at s.stage a.0 a.1 in
      let b = s.board in
      let i : Refuted kind.Base b = subst (λ z. InvAt z b s.progress) at.0 inv in
      let F = formula_clauses kind.Step b in
      subst (λ z. Inv z.1) (sym a.2) (subst (λ z. InvAt z b (progress (length F) [])) (sym at.1) (i, kept_at_start (formula_variables kind.Step b) F room.capacity room.cost))
  accepted_keeps s (show work bytes) r a inv =
      let at = show_at s.stage a.0 a.1 in
      subst (λ z. Inv z.1) (sym a.2.1) (subst (λ z. InvAt z s.board s.progress) (sym at.1) tt)

  pub judge_keeps : (s : State) (c : Call) → Inv s → Inv (judge room s c).1
  judge_keeps s c inv = ⊎_elim (λ e. subst (λ z. Inv z.1) (sym e.1) inv) (λ a. accepted_keeps s c (judge room s c) a inv) (judged room s c)
