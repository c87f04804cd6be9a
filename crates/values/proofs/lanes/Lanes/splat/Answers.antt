-- In each arm the two words are all ones or 0.
use Rattle.values.specs.ByLane.{splat_is}
use Rattle.values.proofs.lanes.Lanes.splat.Goals as goal
use Rattle.values.proofs.lanes.Lanes.splat.Goals.{in-Undefined, in-Zero, in-One}

pub returns : goal.returns
returns c =
    elim c.match-value.branch [
      | in-Undefined w ↦ splat_is _ _ (simp (w.result-is, w.in-Undefined.is)) (simp (w.result-is, w.in-Undefined.is))
      | in-Zero w ↦ splat_is _ _ (simp (w.result-is, w.in-Zero.is)) (simp (w.result-is, w.in-Zero.is))
      | in-One w ↦ splat_is _ _ (simp (w.result-is, w.in-One.is)) (simp (w.result-is, w.in-One.is))
    ]
