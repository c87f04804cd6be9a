use Rattle.acceptance.proofs.Invariant.{kept_at_start, kept_stays, kept_lines_follow}
use Rattle.acceptance.proofs.kept_lines_follow.Goals as goal

pub returns : goal.returns
returns c = record { start = kept_at_start; step = kept_stays; list = kept_lines_follow }
