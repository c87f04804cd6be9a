use Rattle.induction.proofs.Never.{step_says}
use Rattle.induction.proofs.step_says.Goals as goal

pub returns : goal.returns
returns c = step_says
