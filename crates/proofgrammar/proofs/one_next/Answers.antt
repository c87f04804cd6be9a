use Rattle.proofgrammar.proofs.Lines.{one_next}
use Rattle.proofgrammar.proofs.one_next.Goals as goal

pub returns : goal.returns
returns c = one_next
