use Rattle.histories.proofs.Stands.{law_stands}
use Rattle.histories.proofs.law_stands.Goals as goal

pub returns : goal.returns
returns c = law_stands
