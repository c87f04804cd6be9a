-- The text of a board's formula.
use Rattle.std.specs.Prelude.{ℕ, List}
use Rattle.sources.specs.declared.formula.Formula.{Formula}
use Rattle.sources.specs.Meaning.{variables_of, clauses_of}
use Rattle.dimacs.specs.Dimacs.{dimacs}

abbrev pub formula_text : Formula → List ℕ
formula_text f = dimacs (variables_of f) (clauses_of f)
