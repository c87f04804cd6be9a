use Rattle.std.proofs.Common.{take, vec_items}
use Rattle.runs.specs.Inputs.{ValuesOf}
use Rattle.runs.proofs.rows.read_values.Given as goal

abbrev pub invariant-loop-byte : goal.invariant-loop-byte
invariant-loop-byte l = ValuesOf (take l.byte-index l.bytes) (vec_items l.values)
