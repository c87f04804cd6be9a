use Rattle.induction.proofs.BaseTo.{base_shows}
use Rattle.induction.proofs.base_shows.Goals as goal

pub returns : goal.returns
returns c = base_shows
