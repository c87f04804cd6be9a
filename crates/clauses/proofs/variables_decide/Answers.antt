use Rattle.clauses.proofs.Variables.{variables_decide}
use Rattle.clauses.proofs.variables_decide.Goals as goal

pub returns : goal.returns
returns c = variables_decide
