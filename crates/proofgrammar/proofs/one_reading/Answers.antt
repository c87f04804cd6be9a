use Rattle.proofgrammar.proofs.Lines.{one_reading}
use Rattle.proofgrammar.proofs.one_reading.Goals as goal

pub returns : goal.returns
returns c = one_reading
