use Rattle.solutions.proofs.Leasts as leasts
use Rattle.solutions.proofs.least_unique.Goals as goal

pub returns : goal.returns
returns g c = leasts.least_unique g.V.ValueKind.meaning g.met.V.ValueKind.lawful
