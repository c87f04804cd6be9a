use Rattle.induction.proofs.Solved.{defined_least}
use Rattle.induction.proofs.defined_least.Goals as goal

pub returns : goal.returns
returns c = defined_least
