-- A refuting list that is accepted item by item is taken whole by a case.
use Rattle.std.proofs.Common.{◌≡◌, ℕ, List, [], ◌∷◌, Some, Ok, Option, sym, refl, ap, ◌∙◌, subst}
use Rattle.std.specs.List.{AllByRecursion as AllOf}
use Rattle.boards.specs.Sheets.{Sheet}
use Rattle.clauses.specs.Clauses.{Clause}
use Rattle.refutations.specs.Refuting.{Item, line as item_line, strike as item_strike, Refutes}
use Rattle.refuting.specs.Judging.{Progress, Judged, judge_line, judge_strike}
use Rattle.acceptance.specs.Judged.{judge_items, offered as offered_items, AllAccepted}
use Rattle.stages.specs.declared.Event.TheVariants as event
use Rattle.stages.specs.declared.Stage.{Stage}
use Rattle.stages.specs.Stages.{after}
use Rattle.histories.specs.declared.Reply.TheVariants.{Accepted}
use Rattle.histories.specs.Cases.{State, state, Room, formula_terms, kind_at, Call, line, strike, by_verdict, judge_item, by_stage, judge, calls_from}
use Rattle.histories.specs.Law.{offered, TakenWhole}

-- The last item is the empty line, and no other is.
abbrev pub Ends : List Item → Type 0
Ends [] = ⊥
Ends (item_strike n ∷ items) = Ends items
Ends (item_line n [] hints ∷ []) = Unit {0}
Ends (item_line n [] hints ∷ (item ∷ items)) = ⊥
Ends (item_line n (l ∷ ls) hints ∷ items) = Ends items

pub refutes_ends : (V C : ℕ) (items : List Item) (clauses : ℕ → Option Clause) (last : ℕ) → Refutes V C clauses last items → Ends items
refutes_ends V C [] clauses last r = absurd r
refutes_ends V C (item_strike n ∷ items) clauses last r = refutes_ends V C items _ last r.2
refutes_ends V C (item_line n [] hints ∷ []) clauses last r = tt
refutes_ends V C (item_line n [] hints ∷ (item ∷ items)) clauses last r = absurd r
refutes_ends V C (item_line n (l ∷ ls) hints ∷ items) clauses last r = refutes_ends V C items _ n r.1

one_taken : (room : Room) (s t : State) (c : Call) (calls : List Call) (end : Stage) → judge room s c ≡ (Ok Accepted, t) → TakenWhole room t calls end → TakenWhole room s (c ∷ calls) end
one_taken room s t c calls end e h =
    subst (λ r. AllOf (λ a. a ≡ Ok Accepted) (r.0 ∷ (calls_from room r.1 calls).0) × ((calls_from room r.1 calls).1.stage ≡ end)) (sym e) ((refl, h.0), h.1)

item_accepted : (s : State) (t : Stage) (j : Judged) → j.0 ≡ Ok tt → judge_item s t j ≡ (Ok Accepted, state s.board t j.1)
item_accepted s t j e = ap (λ v. by_verdict v s (state s.board t j.1)) e

-- a stage at which a formula is refuted, and where the empty line leads
module _ (room : Room) (board : Sheet) (t end : Stage) (on_line : after t event.Line ≡ Some t) (on-empty : after t event.EmptyLine ≡ Some end) (on-strike : after t event.Strike ≡ Some t) where
  pub take : (V : ℕ) (items : List Item) (p : Progress) → Ends items → AllAccepted (judge_items (formula_terms room (kind_at t) board) p (offered_items V items)).0
      → TakenWhole room (state board t p) (offered V items) end
  take V [] p ends all = absurd ends
  take V (item_strike n ∷ items) p ends all =
      let s = state board t p in
      let j = judge_strike (formula_terms room (kind_at t) board) p n in
      one_taken room s (state board t j.1) (strike n) (offered V items) end
      (ap (λ o. by_stage o s (λ u. judge_item s u j)) on-strike ∙ item_accepted s t j all.0)
      (take V items j.1 ends all.1)
  take V (item_line n [] hints ∷ []) p ends all =
      let s = state board t p in
      let j = judge_line (formula_terms room (kind_at t) board) p V n [] hints in
      one_taken room s (state board end j.1) (line V n [] hints) [] end
      (ap (λ o. by_stage o s (λ u. judge_item s u j)) on-empty ∙ item_accepted s end j all.0)
      (tt, refl)
  take V (item_line n [] hints ∷ (item ∷ items)) p ends all = absurd ends
  take V (item_line n (l ∷ ls) hints ∷ items) p ends all =
      let s = state board t p in
      let j = judge_line (formula_terms room (kind_at t) board) p V n (l ∷ ls) hints in
      one_taken room s (state board t j.1) (line V n (l ∷ ls) hints) (offered V items) end
      (ap (λ o. by_stage o s (λ u. judge_item s u j)) on_line ∙ item_accepted s t j all.0)
      (take V items j.1 ends all.1)
