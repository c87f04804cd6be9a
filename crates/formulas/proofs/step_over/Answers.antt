use Rattle.formulas.proofs.Overs.{step_over}
use Rattle.formulas.proofs.step_over.Goals as goal

pub returns : goal.returns
returns c = step_over
