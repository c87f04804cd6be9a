-- What a formula means.
use Rattle.std.specs.Prelude.{ℕ, List, length}
use Rattle.gates.specs.declared.gate.Gate.{Gate}
use Rattle.boards.specs.Sheets.{Sheet, sheet}
use Rattle.clauses.specs.Clauses.{Clause}
use Rattle.formulas.specs.Formulas.{base, step, base_variables, step_variables}
use Rattle.formulas.specs.declared.kind.FormulaKind.{FormulaKind}
use Rattle.formulas.specs.declared.kind.FormulaKind.TheVariants.{Base, Step}
use Rattle.sources.specs.declared.formula.Formula.{Formula}
use Rattle.sources.specs.declared.shape.Shape.{Shape}
use Rattle.sources.specs.Places.{clause_of, base_tail, step_tail}

abbrev pub formula_clauses : FormulaKind → Sheet → List Clause
formula_clauses Base s = base s.gates s.property s.depth
formula_clauses Step s = step s.gates s.property s.depth

abbrev pub formula_variables : FormulaKind → Sheet → ℕ
formula_variables Base s = base_variables s.gates s.depth
formula_variables Step s = step_variables s.gates s.depth

-- the clauses behind those of the frames
abbrev pub tail_of : FormulaKind → Sheet → List Clause
tail_of Base s = base_tail (length s.gates) s.property s.depth
tail_of Step s = step_tail s.gates s.property s.depth

abbrev pub gates_of : Formula → List Gate
gates_of f = (sheet f.board).gates

abbrev pub property_of : Formula → ℕ
property_of f = (sheet f.board).property

abbrev pub depth_of : Formula → ℕ
depth_of f = (sheet f.board).depth

-- what a clause says that is handed over
abbrev pub clause_in : Formula → Shape → Clause
clause_in f = clause_of (length (gates_of f)) (property_of f)

abbrev pub clauses_of : Formula → List Clause
clauses_of f = formula_clauses f.kind (sheet f.board)

abbrev pub variables_of : Formula → ℕ
variables_of f = formula_variables f.kind (sheet f.board)
