use Rattle.solutions.proofs.Frames.{frames_exist}
use Rattle.solutions.proofs.frames_exist.Goals as goal

pub returns : goal.returns
returns c = frames_exist
