-- Two boards: a step formula that a valuation satisfies, and one that none does.
use Rattle.std.specs.Prelude.{ℕ, Bool, true, false, List, [], ◌∷◌, slice_index_or}
use Rattle.gates.specs.declared.gate.Gate.{Gate}
use Rattle.gates.specs.declared.gate.Gate.TheVariants.{One, Not, Register}
use Rattle.clauses.specs.Clauses.{Valuation, Satisfies}
use Rattle.formulas.specs.Formulas.{base, step}
use Rattle.solutions.specs.Runs.{Run, BadAt}

-- Three registers in a row pass on the last one's value, and wire 3 is 1 while the first is 0. From all 0 they stay so; from
-- 0, 0, 1 they go to 0, 1, 1 and then to 1, 1, 1.
abbrev pub chain : List Gate
chain = Register 1 ∷ Register 2 ∷ Register 2 ∷ Not 0 ∷ []

-- the rails of the three frames, then the undefined marks of the last, then the difference marks of the pairs of frames
abbrev pub chain_bits : List Bool
chain_bits =
    true ∷ false ∷ true ∷ false ∷ false ∷ true ∷ false ∷ true ∷
    true ∷ false ∷ false ∷ true ∷ false ∷ true ∷ false ∷ true ∷
    false ∷ true ∷ false ∷ true ∷ false ∷ true ∷ true ∷ false ∷
    false ∷ false ∷ false ∷ false ∷
    false ∷ true ∷ false ∷ true ∷ true ∷ false ∷ true ∷ false ∷ false ∷ []

-- The step formula of the chain at depth 2 holds under those bits.
abbrev pub StepCanHold : Type 0
StepCanHold = Satisfies (λ x. slice_index_or chain_bits x false) (step chain 3 2)

-- A board that is 1 and nothing else: nothing satisfies its formulas at depth 1, and no run of it is ever bad.
abbrev pub constant : List Gate
constant = One ∷ []

pub record NeverHolds : Type 0 where
  pub base_fails : (v : Valuation) → Satisfies v (base constant 0 1) → ⊥
  pub step_fails : (v : Valuation) → Satisfies v (step constant 0 1) → ⊥
  pub never_bad : (rows : List (List Bool)) → Run constant rows → (k : ℕ) → BadAt constant 0 rows k → ⊥
