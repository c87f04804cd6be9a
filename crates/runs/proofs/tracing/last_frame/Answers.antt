use Rattle.std.proofs.Common.{arith}
use Rattle.runs.proofs.Cutting.{cut_last}
use Rattle.runs.proofs.tracing.last_frame.Goals as goal

pub returns : goal.returns
returns c = cut_last c.args.wires c.args.count c.in_ok-last.last c.args.values.now c.requires (omega (arith, c.in_ok-last.ensures))
