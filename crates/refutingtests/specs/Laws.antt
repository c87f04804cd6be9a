-- What is kept in the shelf for one line.
use Rattle.std.specs.Prelude.{◌≡◌, ℕ, ◌≤◌, Bool, true, false, cond, ℤ, Some, None, Option, ◌==◌}
use Rattle.std.proofs.Common.{subst, le_refl}
use Rattle.std.proofs.lemmas.Option.{none-some, same_Some}
use Rattle.shelf.specs.Lines.{Rising}
use Rattle.refutingtests.specs.declared.lone.Lone.{Lone}
use Rattle.refutingtests.specs.Lone.{kept, lines, cost}

pub lone_costs : (n k : ℕ) → cost n ≡ Some k → 1 ≤ k
lone_costs n k e = go (n == 1) e
  where
    go : (b : Bool) → cond b (Some 1) None ≡ Some k → 1 ≤ k
    go true e = subst (λ (j : ℕ). 1 ≤ j) (same_Some 1 k e) (le_refl 1)
    go false e = absurd (none-some k e)

kept_rising : (o : Option (ℕ × ℤ)) → Rising (kept o)
kept_rising None = tt
kept_rising (Some x) = (tt, tt)

pub lone_rising : (x : Lone) → Rising (lines x)
lone_rising x = kept_rising x.line
