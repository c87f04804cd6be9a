-- What is proved of lines and strikes that are judged one after the other.
use Rattle.std.specs.Prelude.{◌≡◌, ℕ, ◌+◌, ◌<◌, ◌≤◌, true, false, ◌≢◌, List, [], length, Some, Ok, Err}
use Rattle.std.specs.Option.{unwrap_or}
use Rattle.std.specs.List.{AllByRecursion as AllOf}
use Rattle.refusals.specs.declared.Refusal.{Refusal}
use Rattle.clauses.specs.Clauses.{Clause, Valuation, some_true, Satisfies}
use Rattle.refutations.specs.Claims.{Models, Unsatisfiable}
use Rattle.refutations.specs.Refuting.{Item, line, Within, Refuting}
use Rattle.refuting.specs.Judging.{Terms, Progress, known, judge_strike}
use Rattle.shelf.specs.Lines.{Rising, Costs, find, total}
use Rattle.shelf.specs.Premises.{of_formula}
use Rattle.acceptance.specs.Judged.{judge_item, Offers, offered, terms_of, start, judged, EndsEmpty, StrikesAbove, NumbersFit, CostsFit, AllAccepted, EmptyAccepted}

-- A refuting list is accepted whole if its numbers and its costs fit, where V marks or more are lent for each line.
abbrev pub TakenWhole : Type 0
TakenWhole =
    (V : ℕ) (F : List Clause) (capacity : ℕ) (cost : Costs) (marks : ℕ) → V ≤ marks
    → (items : List Item) → Refuting V F items → NumbersFit items → CostsFit capacity cost [] items
    → AllAccepted (judged V F capacity cost (offered marks items)).0

-- And only such a list is, with so many marks, among those that end with their one empty line and strike no clause of the formula.
abbrev pub OnlyRefuting : Type 0
OnlyRefuting =
    (V : ℕ) (F : List Clause) (capacity : ℕ) (cost : Costs) (marks : ℕ)
    → (items : List Item) → EndsEmpty items → StrikesAbove (length F) items
    → AllAccepted (judged V F capacity cost (offered marks items)).0
    → (V ≤ marks) × Refuting V F items × NumbersFit items × CostsFit capacity cost [] items

-- A kept line that is struck frees its cost.
abbrev pub StrikeFrees : Type 0
StrikeFrees =
    (t : Terms) (s : Progress) → Rising s.lines → (n : ℕ) (c : Clause) → of_formula t.count n ≡ false → find s.lines n ≡ Some c
    → ((judge_strike t s n).0 ≡ Ok tt)
    × (unwrap_or (t.cost (length c)) 0 + total t.cost (judge_strike t s n).1.lines ≡ total t.cost s.lines)

-- An item that is refused changes nothing.
abbrev pub RefusalsChangeNothing : Type 0
RefusalsChangeNothing =
    (t : Terms) (s : Progress) (marks : ℕ) (item : Item) (e : Refusal) → (judge_item t s marks item).0 ≡ Err e → (judge_item t s marks item).1 ≡ s

-- Of a formula over the variables 1 to V, and how far its refutation has come:
pub record Kept (V : ℕ) (F : List Clause) (capacity : ℕ) (cost : Costs) (s : Progress) : Type 0 where
  -- a valuation that satisfies the formula satisfies every line kept, and so every clause that a hint can name
  pub lines_follow : (v : Valuation) → Satisfies v F → AllOf (λ x. some_true v x.1 ≡ true) s.lines
  pub known_follow : (v : Valuation) → Satisfies v F → Models v (known (terms_of V F capacity cost) s.lines)
  -- the lines are in rising order of number, and their numbers are above the formula's and not above the last one
  pub rising : Rising s.lines
  pub numbers : AllOf (λ x. (length F < x.0) × (x.0 ≤ s.last)) s.lines
  pub last : length F ≤ s.last
  -- each has a literal, and its literals are of the variables 1 to V
  pub not_empty : AllOf (λ x. x.1 ≢ []) s.lines
  pub literals : AllOf (λ x. AllOf (Within V) x.1) s.lines
  -- together they cost at most the capacity
  pub costs : total cost s.lines ≤ capacity

-- It holds at the start, and one more item, accepted or refused, leaves it so. Where that is an empty line and accepted, the
-- formula is unsatisfiable.
abbrev pub KeptAtStart : Type 0
KeptAtStart = (V : ℕ) (F : List Clause) (capacity : ℕ) (cost : Costs) → Kept V F capacity cost (start F)

abbrev pub KeptStays : Type 0
KeptStays =
    (V : ℕ) (F : List Clause) (capacity : ℕ) (cost : Costs) (s : Progress) → Kept V F capacity cost s
    → (marks : ℕ) (item : Item)
    → Kept V F capacity cost (judge_item (terms_of V F capacity cost) s marks item).1
    × ((n : ℕ) (hints : List ℕ) → item ≡ line n [] hints → (judge_item (terms_of V F capacity cost) s marks item).0 ≡ Ok tt → Unsatisfiable F)

-- So it holds whatever was judged; and where some empty line was accepted, the formula is unsatisfiable.
abbrev pub KeptLinesFollow : Type 0
KeptLinesFollow =
    (V : ℕ) (F : List Clause) (capacity : ℕ) (cost : Costs) (offers : Offers)
    → Kept V F capacity cost (judged V F capacity cost offers).1
    × (EmptyAccepted offers (judged V F capacity cost offers).0 → Unsatisfiable F)
