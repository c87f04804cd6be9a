use Rattle.induction.proofs.Solved.{least_defined}
use Rattle.induction.proofs.least_defined.Goals as goal

pub returns : goal.returns
returns c = least_defined
