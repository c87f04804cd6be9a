use Rattle.induction.proofs.BaseFrom.{base_says}
use Rattle.induction.proofs.base_says.Goals as goal

pub returns : goal.returns
returns c = base_says
