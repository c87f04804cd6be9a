use Rattle.std.proofs.Common.{arith}
use Rattle.wireclauses.proofs.Wires.{nth_suc}
use Rattle.wireclauses.proofs.wire.wire_clause.Goals as goal

pub returns-then-j-gt0 : goal.returns-then-j-gt0
returns-then-j-gt0 c = cc (nth_suc _ _ c.args.j (omega arith))
