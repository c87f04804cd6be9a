use Rattle.solutions.proofs.Rounds.{rounds_end}
use Rattle.solutions.proofs.frames_end.Goals as goal

pub returns : goal.returns
returns g c = rounds_end g.V.ValueKind.meaning g.met.V.ValueKind.lawful
