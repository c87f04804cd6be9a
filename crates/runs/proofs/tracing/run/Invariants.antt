use Rattle.std.proofs.Common.{◌≡◌, ◌*◌, length, vec_items}
use Rattle.runs.specs.Tables.{cut}
use Rattle.runs.proofs.Running.{Reached}
use Rattle.runs.proofs.tracing.run.Given as goal

abbrev pub invariant-frames : goal.invariant-frames
invariant-frames g l =
    let gs = vec_items l.board.gates in
    (length (vec_items l.values) ≡ l.index * length gs) × Reached gs l.board.property g.bits (cut (length gs) l.index (vec_items l.values)) l.index
