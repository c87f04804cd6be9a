-- What a line costs where there are slots.
use Rattle.std.specs.Prelude.{cond, Some, None, nat_le}
use Rattle.shelf.specs.Lines.{Costs}

-- A line takes a slot, whatever its length up to 32.
abbrev pub slot_cost : Costs
slot_cost n = cond (nat_le n 32) (Some 1) None
