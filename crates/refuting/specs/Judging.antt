-- How a line and a strike are judged while a formula is refuted.
use Rattle.std.specs.Prelude.{ℕ, Bool, true, false, cond, ◌&&◌, List, [], ◌∷◌, is_some, Ok, Err, Option, nat_le, nat_lt}
use Rattle.refusals.specs.declared.Refusal.{Refusal}
use Rattle.refusals.specs.declared.Refusal.TheVariants.{Buffer, Number, Literal, Space, Absent}
use Rattle.clauses.specs.Clauses.{Clause}
use Rattle.hints.specs.Hints.{Verdict, all_fit, checked}
use Rattle.shelf.specs.Lines.{Lines, Costs, find, insert, remove, keeps}
use Rattle.shelf.specs.Premises.{of_formula, premises}

-- What stays as it is: the variables 1 to V, the formula with its clauses 1 to `count`, and the shelf's capacity and costs.
pub record Terms : Type 0 where
  pub variables : ℕ
  pub count : ℕ
  pub formula : ℕ → Option Clause
  pub capacity : ℕ
  pub cost : Costs

abbrev pub terms : ℕ → ℕ → (ℕ → Option Clause) → ℕ → Costs → Terms
terms variables count formula capacity cost =
    record { variables = variables; count = count; formula = formula; capacity = capacity; cost = cost }

-- How far it has come: the last number, and the lines kept.
pub record Progress : Type 0 where
  pub last : ℕ
  pub lines : Lines

abbrev pub progress : ℕ → Lines → Progress
progress last lines = record { last = last; lines = lines }

-- the clauses that a hint can name
abbrev pub known : Terms → Lines → ℕ → Option Clause
known t lines = premises t.count t.formula (find lines)

-- An answer, and how far it has come then.
abbrev pub Judged : Type 0
Judged = Verdict × Progress

-- Refused where the test fails, and nothing changes.
abbrev pub check : Bool → Refusal → Progress → Judged → Judged
check true e s next = next
check false e s next = (Err e, s)

abbrev pub go_on : Verdict → Progress → Judged → Judged
go_on (Ok _) s next = next
go_on (Err e) s next = (Err e, s)

-- A line that follows: its number is the last one now, and it is kept if it has literals.
abbrev pub take_line : Terms → Progress → ℕ → Clause → Judged
take_line t s n [] = (Ok tt, progress n s.lines)
take_line t s n (l ∷ ls) =
    check (keeps t.capacity t.cost s.lines n (l ∷ ls)) Space s (Ok tt, progress n (insert n (l ∷ ls) s.lines))

-- A line for which so many marks are lent.
abbrev pub judge_line : Terms → Progress → ℕ → ℕ → Clause → List ℕ → Judged
judge_line t s marks n ls hints =
    check (nat_le t.variables marks) Buffer s
    (check (nat_lt s.last n && nat_le n 2147483647) Number s
    (check (all_fit t.variables ls) Literal s
    (go_on (checked t.variables (known t s.lines) ls hints) s (take_line t s n ls))))

-- A clause of the formula is struck without effect.
abbrev pub judge_strike : Terms → Progress → ℕ → Judged
judge_strike t s n =
    cond (of_formula t.count n) (Ok tt, s)
    (check (is_some (find s.lines n)) Absent s (Ok tt, progress s.last (remove n s.lines)))
