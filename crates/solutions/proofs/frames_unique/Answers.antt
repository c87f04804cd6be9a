use Rattle.solutions.proofs.Frames.{frames_unique}
use Rattle.solutions.proofs.frames_unique.Goals as goal

pub returns : goal.returns
returns c = frames_unique
