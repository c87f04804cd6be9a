use Rattle.buffers.proofs.Pieces.{pieces}
use Rattle.dimacs.specs.Dimacs.{spaced}
use Rattle.dimacs.proofs.Turns.{clause_at}
use Rattle.dimacs.proofs.clause_texts.put_clause.Given as goal

abbrev pub invariant-loop-place : goal.invariant-loop-place
invariant-loop-place g l = g.S.Sink.takes l.fn.out (pieces spaced (clause_at l.fn.formula l.number) l.place) l.out
