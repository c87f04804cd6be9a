use Rattle.induction.proofs.Tried.{never_holds}
use Rattle.induction.proofs.never_holds.Goals as goal

pub returns : goal.returns
returns c = never_holds
