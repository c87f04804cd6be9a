-- What is printed of a formula.
use Rattle.std.specs.Prelude.{ℕ, List, ◌++◌, codes}
use Rattle.decimals.specs.Decimals.{text_of}
use Rattle.formulas.specs.declared.kind.FormulaKind.{FormulaKind}
use Rattle.formulas.specs.Kinds.{kind_name}

-- `base 3 6`: the numbers of variables and of clauses
abbrev pub formula_line : FormulaKind → ℕ → ℕ → List ℕ
formula_line kind V C = kind_name kind ++ (codes " " ++ (text_of V ++ (codes " " ++ text_of C)))
