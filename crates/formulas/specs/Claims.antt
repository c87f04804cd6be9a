-- What is proved of the two formulas.
use Rattle.std.specs.Prelude.{◌≡◌, ℕ, ◌<◌, true, List, length}
use Rattle.gates.specs.declared.gate.Gate.{Gate}
use Rattle.gates.specs.Gates.{named}
use Rattle.clauses.specs.Clauses.{Over}
use Rattle.formulas.specs.Formulas.{base, step, base_variables, step_variables}

-- The formulas of a board whose gates and property name its own wires speak of their variables alone.
abbrev pub BaseOver : Type 0
BaseOver = (gs : List Gate) (p d : ℕ) → named (length gs) gs ≡ true → p < length gs → Over (base_variables gs d) (base gs p d)

abbrev pub StepOver : Type 0
StepOver = (gs : List Gate) (p d : ℕ) → named (length gs) gs ≡ true → p < length gs → Over (step_variables gs d) (step gs p d)
