use Rattle.values.specs.LaneLaws.{lanewise}
use Rattle.values.proofs.lanes.kind.lanes_are_single.Goals as goal

pub returns : goal.returns
returns c = lanewise
