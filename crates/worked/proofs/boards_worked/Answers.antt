use Rattle.worked.proofs.Worked.{boards_worked}
use Rattle.worked.proofs.boards_worked.Goals as goal

pub returns : goal.returns
returns c = boards_worked
