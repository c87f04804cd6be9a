use Rattle.induction.proofs.Encoding.{frame_shown}
use Rattle.induction.proofs.frame_shown.Goals as goal

pub returns : goal.returns
returns c = frame_shown
