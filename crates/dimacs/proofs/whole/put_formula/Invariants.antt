use Rattle.buffers.proofs.Pieces.{pieces}
use Rattle.sources.specs.Meaning.{clauses_of}
use Rattle.dimacs.specs.Dimacs.{clause_text}
use Rattle.dimacs.proofs.whole.put_formula.Given as goal

abbrev pub invariant-loop-before : goal.invariant-loop-before
invariant-loop-before g l = g.S.Sink.takes l.initial.out (pieces clause_text (clauses_of l.fn.formula) l.before) l.out
