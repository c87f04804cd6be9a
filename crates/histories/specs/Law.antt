-- The law of a case: what holds of it after any list of calls, however many of them were refused.
use Rattle.std.specs.Prelude.{◌≡◌, ℕ, ◌<◌, ◌≤◌, Bool, true, false, cond, ◌≢◌, ◌⊎◌, ◌↔◌, List, [], ◌∷◌, ◌++◌, map, length, Some, None, Ok, Err, Option}
use Rattle.std.specs.List.{AllByRecursion as AllOf}
use Rattle.refusals.specs.declared.Refusal.{Refusal}
use Rattle.gates.specs.Records.{record_of}
use Rattle.values.specs.declared.single.Value.{Value}
use Rattle.boards.specs.Sheets.{Sheet}
use Rattle.clauses.specs.Clauses.{Clause}
use Rattle.formulas.specs.Formulas.{base, step, base_variables, step_variables}
use Rattle.solutions.specs.Runs.{Run, Frame, BadWithin}
use Rattle.induction.specs.Claims.{FirstBadAt}
use Rattle.runs.specs.Faults.{Fault, Faultless}
use Rattle.refutations.specs.Refuting.{Item, line as item_line, strike as item_strike, Refuting}
use Rattle.acceptance.specs.Judged.{NumbersFit, CostsFit}
use Rattle.stages.specs.declared.Stage.{Stage}
use Rattle.stages.specs.declared.Stage.TheVariants as stage
use Rattle.histories.specs.declared.Reply.TheVariants.{Accepted, Shown}
use Rattle.histories.specs.Shown.{shown_run}
use Rattle.histories.specs.Cases.{State, Room, Call, Answer, add, close, line, strike, pass, show, judge, calls_from, replayed}

-- ---- what a list of calls, with its answers, says

abbrev pub taken : Answer → Bool
taken (Ok reply) = true
taken (Err e) = false

-- the records of the accepted adds, in order
abbrev pub added : Call → List (List ℕ)
added (add bytes) = bytes ∷ []
added (close p d) = []
added (line marks n ls hints) = []
added (strike n) = []
added pass = []
added (show work bytes) = []

abbrev pub records : List Call → List Answer → List (List ℕ)
records [] answers = []
records (c ∷ calls) [] = []
records (c ∷ calls) (a ∷ answers) = cond (taken a) (added c) [] ++ records calls answers

-- the property wire and the depth of each accepted close, in order
abbrev pub closed : Call → List (ℕ × ℕ)
closed (add bytes) = []
closed (close p d) = (p, d) ∷ []
closed (line marks n ls hints) = []
closed (strike n) = []
closed pass = []
closed (show work bytes) = []

abbrev pub closes : List Call → List Answer → List (ℕ × ℕ)
closes [] answers = []
closes (c ∷ calls) [] = []
closes (c ∷ calls) (a ∷ answers) = cond (taken a) (closed c) [] ++ closes calls answers

-- the last call that was not refused
abbrev pub later_or : Option Call → Option Call → Option Call
later_or (Some c) o = Some c
later_or None o = o

abbrev pub last_taken : List Call → List Answer → Option Call
last_taken [] answers = None
last_taken (c ∷ calls) [] = None
last_taken (c ∷ calls) (a ∷ answers) = later_or (last_taken calls answers) (cond (taken a) (Some c) None)

-- Some call is a show of this valuation, answered by this frame and wire.
abbrev pub ShowTaken : List Call → List Answer → List ℕ → ℕ → ℕ → Type 0
ShowTaken [] answers bytes k w = ⊥
ShowTaken (c ∷ calls) [] bytes k w = ⊥
ShowTaken (c ∷ calls) (a ∷ answers) bytes k w =
    ((work : ℕ) × (c ≡ show work bytes) × (a ≡ Ok (Shown k w))) ⊎ ShowTaken calls answers bytes k w

-- ---- the board that the calls drew

-- Its gates are those of the accepted adds' records, and it has the property wire and depth of the one accepted close.
abbrev pub Drawn : List Call → List Answer → Sheet → Stage → Type 0
Drawn calls answers board s =
    (map record_of board.gates ≡ records calls answers)
    × (s ≡ stage.Draw → closes calls answers ≡ [])
    × (s ≢ stage.Draw → closes calls answers ≡ (board.property, board.depth) ∷ [])

-- ---- runs

-- Every frame of every run, of every length, has every wire defined and the property wire at 1.
abbrev pub AlwaysGood : Sheet → Type 0
AlwaysGood b =
    (rows : List (List Bool)) → Run b.gates rows → (k : ℕ) → 0 < k → k ≤ length rows
    → (f : ℕ → Value) × Frame b.gates rows k f × Faultless (length b.gates) b.property f

-- No run is bad within the depth.
abbrev pub NoneBad : Sheet → Type 0
NoneBad b = (rows : List (List Bool)) → Run b.gates rows → BadWithin b.gates b.property b.depth rows → ⊥

-- The valuation's inputs make a run as long as the depth, bad at frame k and at none before; w is what is wrong with frame k.
abbrev pub ShowsBad : Sheet → List ℕ → ℕ → ℕ → Type 0
ShowsBad b bytes k w =
    let rows = shown_run b.gates b.depth bytes in
    Run b.gates rows × (length rows ≡ b.depth) × FirstBadAt b.gates b.property rows k
    × ((f : ℕ → Value) × Frame b.gates rows k f × Fault (length b.gates) b.property f w)

-- ---- refuting lists

-- A refuting list as calls, with so many marks lent at each line.
abbrev pub offer : ℕ → Item → Call
offer marks (item_line n ls hints) = line marks n ls hints
offer marks (item_strike n) = strike n

abbrev pub offered : ℕ → List Item → List Call
offered marks [] = []
offered marks (item ∷ items) = offer marks item ∷ offered marks items

-- Every call is accepted, and the case ends at this stage.
abbrev pub TakenWhole : Room → State → List Call → Stage → Type 0
TakenWhole room s calls end = AllOf (λ a. a ≡ Ok Accepted) (calls_from room s calls).0 × ((calls_from room s calls).1.stage ≡ end)

-- Each list that refutes the clauses over the variables 1 to V, and whose numbers and costs fit, is taken whole.
abbrev pub Takes : Room → State → ℕ → List Clause → Stage → Type 0
Takes room s V F end =
    (items : List Item) → Refuting V F items → NumbersFit items → CostsFit room.capacity room.cost [] items
    → TakenWhole room s (offered V items) end

-- ---- the law

-- of a case that the calls, with these answers, have led from new to s
pub record Holds (room : Room) (calls : List Call) (answers : List Answer) (s : State) : Type 0 where
  pub drawn : Drawn calls answers s.board s.stage
  pub safe : s.stage ≡ stage.Safe → AlwaysGood s.board
  pub show_taken : s.stage ≡ stage.Shown → (bytes : List ℕ) × (k : ℕ) × (w : ℕ) × ShowTaken calls answers bytes k w
  pub shows_bad : (bytes : List ℕ) (k w : ℕ) → ShowTaken calls answers bytes k w → ShowsBad s.board bytes k w
  pub refutable :
      s.stage ≢ stage.Draw →
      NoneBad s.board
      ↔ ((items : List Item) × Refuting (base_variables s.board.gates s.board.depth) (base s.board.gates s.board.property s.board.depth) items)
  -- with nothing accepted since close, and since pass
  pub base_taken :
      (p d : ℕ) → last_taken calls answers ≡ Some (close p d) →
      Takes room s (base_variables s.board.gates s.board.depth) (base s.board.gates s.board.property s.board.depth) stage.BaseDone
  pub step_taken :
      last_taken calls answers ≡ Some pass →
      Takes room s (step_variables s.board.gates s.board.depth) (step s.board.gates s.board.property s.board.depth) stage.Safe

abbrev pub Law : Room → List Call → Type 0
Law room calls = Holds room calls (replayed room calls).0 (replayed room calls).1

-- It holds for every shelf and every list of calls.
abbrev pub LawStands : Type 0
LawStands = (room : Room) (calls : List Call) → Law room calls

-- A call that is refused changes nothing.
abbrev pub RefusalsChangeNothing : Type 0
RefusalsChangeNothing = (room : Room) (s : State) (c : Call) (e : Refusal) → (judge room s c).0 ≡ Err e → (judge room s c).1 ≡ s

-- More calls go on from where the first ones led.
abbrev pub CallsGoOn : Type 0
CallsGoOn =
    (room : Room) (s : State) (calls more : List Call) →
    let first = calls_from room s calls in
    let later = calls_from room first.1 more in
    ((calls_from room s (calls ++ more)).0 ≡ first.0 ++ later.0) × ((calls_from room s (calls ++ more)).1 ≡ later.1)
