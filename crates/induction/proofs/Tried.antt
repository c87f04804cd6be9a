-- The two boards, by computation.
use Rattle.std.proofs.Common.{refl, arith, rules}
use Rattle.clauses.specs.Clauses.{Valuation, Satisfies}
use Rattle.formulas.specs.Formulas.{base, step}
use Rattle.induction.specs.Examples.{constant, StepCanHold, NeverHolds}
use Rattle.induction.proofs.BaseFrom.{base_says}
use Rattle.induction.proofs.Never.{step_says}

pub step_can_hold : StepCanHold
step_can_hold = search rules

base_fails : (v : Valuation) → Satisfies v (base constant 0 1) → ⊥
base_fails = search rules

-- with no register the clause that two frames differ is empty
step_fails : (v : Valuation) → Satisfies v (step constant 0 1) → ⊥
step_fails = search rules

pub never_holds : NeverHolds
never_holds = record {
  base_fails = base_fails;
  step_fails = step_fails;
  never_bad = step_says constant 0 1 refl (omega arith) (λ rows run b. let s = (base_says constant 0 1 refl (omega arith)).1 (rows, run, b) in base_fails s.0 s.1) step_fails;
}
