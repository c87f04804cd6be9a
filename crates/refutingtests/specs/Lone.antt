-- A shelf for one line of one literal.
use Rattle.std.specs.Prelude.{ℕ, cond, [], ◌∷◌, ℤ, Some, None, Option, ◌==◌}
use Rattle.shelf.specs.Lines.{Lines, Costs}
use Rattle.refutingtests.specs.declared.lone.Lone.{Lone}

abbrev pub kept : Option (ℕ × ℤ) → Lines
kept None = []
kept (Some x) = (x.0, x.1 ∷ []) ∷ []

abbrev pub lines : Lone → Lines
lines x = kept x.line

abbrev pub cost : Costs
cost length = cond (length == 1) (Some 1) None
