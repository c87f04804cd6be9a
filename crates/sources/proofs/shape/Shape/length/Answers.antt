use Rattle.std.proofs.Common.{length, sym, ap, ◌∙◌}
use Rattle.sources.specs.Places.{clause_of}
use Rattle.sources.proofs.Marks.{row_length}
use Rattle.sources.proofs.shape.Shape.length.Goals as goal

pub returns-in-Long : goal.returns-in-Long
returns-in-Long c =
    let l = c.in-Long.long in
    λ n p. row_length n p l.first l.marks l.frame l.frames ∙ ap (λ x. length (clause_of n p x)) (sym c.in-Long.is)
