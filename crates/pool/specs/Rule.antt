-- What a line costs in a pool.
use Rattle.std.specs.Prelude.{◌+◌, Some}
use Rattle.shelf.specs.Lines.{Costs}

-- A word for each literal, and two more.
abbrev pub pool_cost : Costs
pool_cost n = Some (n + 2)
