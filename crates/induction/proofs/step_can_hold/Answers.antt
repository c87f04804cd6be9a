use Rattle.induction.proofs.Tried.{step_can_hold}
use Rattle.induction.proofs.step_can_hold.Goals as goal

pub returns : goal.returns
returns c = step_can_hold
