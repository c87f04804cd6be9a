use Rattle.formulas.proofs.Overs.{base_over}
use Rattle.formulas.proofs.base_over.Goals as goal

pub returns : goal.returns
returns c = base_over
