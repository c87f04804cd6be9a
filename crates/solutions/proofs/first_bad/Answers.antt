use Rattle.solutions.proofs.Frames.{first_bad}
use Rattle.solutions.proofs.first_bad.Goals as goal

pub returns : goal.returns
returns c = first_bad
