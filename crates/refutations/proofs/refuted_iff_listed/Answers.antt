use Rattle.refutations.proofs.Complete.{refuted_listed}
use Rattle.refutations.proofs.Listed.{listed_refuted}
use Rattle.refutations.proofs.refuted_iff_listed.Goals as goal

pub returns : goal.returns
returns c V F over = (refuted_listed V F over, listed_refuted V F)
