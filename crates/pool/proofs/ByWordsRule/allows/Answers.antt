use Rattle.std.proofs.Common.{arith}
use Rattle.std.proofs.lemmas.Bool.Decides.{nat_tests}
use Rattle.pool.proofs.Costs.{pool_total}
use Rattle.pool.proofs.ByWordsRule.allows.Goals as goal

pub returns-then-free-ge2 : goal.returns-then-free-ge2
returns-then-free-ge2 c = λ xs _ lines literals. let sum = pool_total xs in grind (arith, nat_tests)

pub returns-else-free-ge2 : goal.returns-else-free-ge2
returns-else-free-ge2 c = λ xs _ lines literals. let sum = pool_total xs in grind (arith, nat_tests)
