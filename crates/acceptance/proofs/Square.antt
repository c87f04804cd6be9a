-- The example, by computation.
use Rattle.std.proofs.Common.{[], refl, rules}
use Rattle.refutations.proofs.Listed.{listed_refuted}
use Rattle.refutations.specs.Refuting.{Refuting}
use Rattle.acceptance.specs.Judged.{NumbersFit, CostsFit}
use Rattle.acceptance.specs.Examples.{square, lines, cost, Tried}

refuting : Refuting 2 square lines
refuting = search rules

costs_fit : CostsFit 2 cost [] lines
costs_fit = search rules

numbers_fit : NumbersFit lines
numbers_fit = search rules

pub tried : Tried
tried = record {
  refuting = refuting;
  unsatisfiable = listed_refuted 2 square (lines, refuting);
  numbers_fit = numbers_fit;
  costs_fit = costs_fit;
  whole = refl;
  no_room = refl;
  refused = refl;
}
