use Rattle.induction.proofs.Encoding.{frame_encodes}
use Rattle.induction.proofs.frame_encodes.Goals as goal

pub returns : goal.returns
returns c = frame_encodes
