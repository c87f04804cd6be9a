use Rattle.std.proofs.Common.{refl, rules}
use Rattle.runs.proofs.Cutting.{no_multiple}
use Rattle.runs.proofs.rows.count_rows.Goals as goal

pub returns-then-not-is_multiple_of : goal.returns-then-not-is_multiple_of
returns-then-not-is_multiple_of c = (refl, no_multiple c.args.width c.args.length (search rules))
