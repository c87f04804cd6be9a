-- The two kinds of formulas.
use Rattle.std.specs.Prelude.{ℕ, Bool, true, false, List, codes}
use Rattle.formulas.specs.declared.kind.FormulaKind.{FormulaKind}
use Rattle.formulas.specs.declared.kind.FormulaKind.TheVariants.{Base, Step}

-- whether the first frame is that of a board's start
abbrev pub starts : FormulaKind → Bool
starts Base = true
starts Step = false

abbrev pub kind_name : FormulaKind → List ℕ
kind_name Base = codes "base"
kind_name Step = codes "step"
