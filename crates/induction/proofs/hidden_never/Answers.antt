use Rattle.induction.proofs.BaseTo.{hidden_never}
use Rattle.induction.proofs.hidden_never.Goals as goal

pub returns : goal.returns
returns c = hidden_never
