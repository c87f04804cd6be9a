use Rattle.induction.proofs.Equations.{encodes}
use Rattle.induction.proofs.encodes.Goals as goal

pub returns : goal.returns
returns c = encodes
