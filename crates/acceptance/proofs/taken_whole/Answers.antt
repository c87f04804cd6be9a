use Rattle.acceptance.proofs.Invariant.{strike_frees}
use Rattle.acceptance.proofs.Whole.{taken_whole, only_refuting}
use Rattle.acceptance.proofs.taken_whole.Goals as goal

pub returns : goal.returns
returns c = record { whole = taken_whole; only = only_refuting; freed = strike_frees }
