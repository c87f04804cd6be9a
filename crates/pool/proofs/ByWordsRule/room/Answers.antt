use Rattle.std.proofs.Common.{arith}
use Rattle.pool.proofs.Costs.{pool_total}
use Rattle.pool.proofs.ByWordsRule.room.Goals as goal

pub returns-clause-enough : goal.returns-clause-enough
returns-clause-enough c = λ xs _ within. let sum = pool_total xs in (omega arith, omega arith)
