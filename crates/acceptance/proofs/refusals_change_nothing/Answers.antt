use Rattle.acceptance.proofs.Checks.{refusals_change_nothing}
use Rattle.acceptance.proofs.refusals_change_nothing.Goals as goal

pub returns : goal.returns
returns c = refusals_change_nothing
