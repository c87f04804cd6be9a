-- No line is free in a pool.
use Rattle.std.specs.Prelude.{◌≡◌, ℕ, ◌+◌, ◌≤◌, Some}
use Rattle.std.proofs.Common.{subst, le_trans}
use Rattle.std.proofs.Math.Nat.{le-add_left}
use Rattle.std.proofs.lemmas.Option.{same_Some}
use Rattle.pool.specs.Rule.{pool_cost}

pub pool_costs : (n k : ℕ) → pool_cost n ≡ Some k → 1 ≤ k
pool_costs n k e = subst (λ (j : ℕ). 1 ≤ j) (same_Some (n + 2) k e) (le_trans (le-add_left 1 1) (le-add_left 2 n))
