use Rattle.std.proofs.Common.{true, false, rules, refl}
use Rattle.runs.specs.Inputs.{IsRead, IsUnread}
use Rattle.runs.proofs.rows.read_value.Goals as goal

pub returns-in-0 : goal.returns-in-0
unfolding IsRead
returns-in-0 c = (false, search rules, refl)

pub returns-in-1 : goal.returns-in-1
unfolding IsRead
returns-in-1 c = (true, search rules, refl)

pub returns-in_default : goal.returns-in_default
unfolding IsUnread
returns-in_default c = search rules
