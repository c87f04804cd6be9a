use Rattle.solutions.proofs.LaneFrames as frames
use Rattle.solutions.proofs.lanes_apart.Goals as goal

pub returns : goal.returns
returns c = frames.lanes_apart
