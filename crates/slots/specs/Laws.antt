-- No line is free where there are slots.
use Rattle.std.specs.Prelude.{◌≡◌, ℕ, ◌≤◌, Bool, true, false, cond, Some, None, nat_le}
use Rattle.std.proofs.Common.{subst, le_refl}
use Rattle.std.proofs.lemmas.Option.{none-some, same_Some}
use Rattle.slots.specs.Rule.{slot_cost}

pub slot_costs : (n k : ℕ) → slot_cost n ≡ Some k → 1 ≤ k
slot_costs n k e = go (nat_le n 32) e
  where
    go : (b : Bool) → cond b (Some 1) None ≡ Some k → 1 ≤ k
    go true e = subst (λ (j : ℕ). 1 ≤ j) (same_Some 1 k e) (le_refl 1)
    go false e = absurd (none-some k e)
