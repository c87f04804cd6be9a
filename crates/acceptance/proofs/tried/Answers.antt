use Rattle.acceptance.proofs.Square.{tried}
use Rattle.acceptance.proofs.tried.Goals as goal

pub returns : goal.returns
returns c = tried
