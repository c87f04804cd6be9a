-- What lines cost in a pool.
use Rattle.std.proofs.Common.{◌≡◌, ◌+◌, ◌*◌, [], ◌∷◌, length, refl, arith}
use Rattle.shelf.specs.Lines.{Lines, total}
use Rattle.store.specs.Rows.{literals_in}
use Rattle.pool.specs.Rule.{pool_cost}

pub pool_total : (xs : Lines) → total pool_cost xs ≡ literals_in xs + 2 * length xs
pool_total [] = refl
pool_total (x ∷ xs) = omega (arith, pool_total xs)
