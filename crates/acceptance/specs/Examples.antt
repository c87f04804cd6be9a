-- A formula that is refuted, and what is answered on the way.
use Rattle.std.specs.Prelude.{◌≡◌, cond, List, [], ◌∷◌, pos, Some, None, Ok, Err, nat_le}
use Rattle.refusals.specs.declared.Refusal.TheVariants.{Buffer, Number, Literal, Absent, Slack, Loose, Space}
use Rattle.clauses.specs.Clauses.{Clause, plus, minus}
use Rattle.refutations.specs.Claims.{Unsatisfiable}
use Rattle.refutations.specs.Refuting.{Item, line, strike, Refuting}
use Rattle.refuting.specs.Judging.{progress}
use Rattle.shelf.specs.Lines.{Costs}
use Rattle.acceptance.specs.Judged.{Offers, offered, judged, NumbersFit, CostsFit}

-- Two variables: each of the four clauses excludes one valuation.
abbrev pub square : List Clause
square =
    (plus 0 ∷ plus 1 ∷ []) ∷ (minus 0 ∷ plus 1 ∷ []) ∷ (plus 0 ∷ minus 1 ∷ []) ∷ (minus 0 ∷ minus 1 ∷ []) ∷ []

-- By the first two clauses the second variable is true, and with the third so is the first variable; then the first line is
-- struck, and the second line with the second and the fourth clause gives the empty line. One number is left out.
abbrev pub lines : List Item
lines =
    line 5 (plus 1 ∷ []) (1 ∷ 2 ∷ [])
    ∷ line 7 (plus 0 ∷ []) (5 ∷ 3 ∷ [])
    ∷ strike 5
    ∷ line 8 [] (7 ∷ 2 ∷ 4 ∷ [])
    ∷ []

-- Every line of up to two literals costs 1, and no longer one is kept.
abbrev pub cost : Costs
cost length = cond (nat_le length 2) (Some 1) None

-- Items that are refused, for each reason, where most would be refused for the later reasons too; and two that are accepted: a
-- strike of a clause of the formula, and a line with a literal and its negative, with the highest number.
abbrev pub mistakes : Offers
mistakes =
    (1, line 4 (pos 0 ∷ []) (9 ∷ []))
    ∷ (2, line 4 (pos 0 ∷ []) (9 ∷ []))
    ∷ (2, line 2147483648 (pos 0 ∷ []) (9 ∷ []))
    ∷ (2, line 5 (pos 0 ∷ []) (9 ∷ []))
    ∷ (2, line 5 (plus 2 ∷ []) (9 ∷ []))
    ∷ (2, line 5 (plus 1 ∷ plus 1 ∷ plus 1 ∷ []) (9 ∷ 1 ∷ 1 ∷ []))
    ∷ (2, line 5 (plus 1 ∷ plus 1 ∷ plus 1 ∷ []) (1 ∷ 1 ∷ 9 ∷ []))
    ∷ (2, line 5 [] (1 ∷ []))
    ∷ (2, line 5 (plus 1 ∷ plus 1 ∷ plus 1 ∷ []) (1 ∷ []))
    ∷ (2, line 5 (plus 1 ∷ plus 1 ∷ plus 1 ∷ []) (1 ∷ 2 ∷ 9 ∷ []))
    ∷ (0, strike 5)
    ∷ (0, strike 4)
    ∷ (2, line 2147483647 (plus 0 ∷ minus 0 ∷ []) [])
    ∷ []

pub record Tried : Type 0 where
  pub refuting : Refuting 2 square lines
  pub unsatisfiable : Unsatisfiable square
  -- with room for two lines the list is accepted whole
  pub numbers_fit : NumbersFit lines
  pub costs_fit : CostsFit 2 cost [] lines
  pub whole : judged 2 square 2 cost (offered 2 lines) ≡ (Ok tt ∷ Ok tt ∷ Ok tt ∷ Ok tt ∷ [], progress 8 ((7, plus 0 ∷ []) ∷ []))
  -- with room for one line the second is refused, and so the last has a hint that names no clause
  pub no_room : judged 2 square 1 cost (offered 2 lines) ≡ (Ok tt ∷ Err Space ∷ Ok tt ∷ Err Absent ∷ [], progress 5 [])
  -- the reasons for a refusal
  pub refused :
      judged 2 square 2 cost mistakes
      ≡ (
        Err Buffer ∷ Err Number ∷ Err Number ∷ Err Literal ∷ Err Literal ∷ Err Absent ∷ Err Slack ∷ Err Slack ∷ Err Loose ∷ Err Space
            ∷ Err Absent ∷ Ok tt ∷ Ok tt ∷ [],
        progress 2147483647 ((2147483647, plus 0 ∷ minus 0 ∷ []) ∷ []),
      )
