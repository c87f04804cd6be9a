use Rattle.std.proofs.Common.{◌<◌, [], length, arith}
use Rattle.buffers.proofs.Pieces.{pieces_all, row_more}
use Rattle.sources.specs.Meaning.{clauses_of}
use Rattle.dimacs.specs.Dimacs.{header, clause_text}
use Rattle.dimacs.proofs.Lengths.{text_short}
use Rattle.dimacs.proofs.Turns.{numbered_at}
use Rattle.dimacs.proofs.whole.put_formula.Goals as goal

pub loop-before-preserved : goal.loop-before-preserved
loop-before-preserved g c =
    let cs = clauses_of c.args.formula.now in
    let inside : c.loop-before.before < length cs = omega (arith, c.clauses-clauses.ensures.is) in
    row_more _ g.met.S.Sink.then clause_text _ _ _ _ _ c.loop-before.invariant [] inside (rw (numbered_at cs _ inside) c.put_clause.ensures)

pub returns-clause-text : goal.returns-clause-text
returns-clause-text g c =
    let cs = clauses_of c.args.formula.now in
    let all = pieces_all clause_text cs c.loop-before.before (omega (arith, c.clauses-clauses.ensures.is)) in
    let first = rw (c.variables-variables.ensures.is, c.clauses-clauses.ensures.is) at c.put_header.ensures in
    g.met.S.Sink.then _ _ _ (header _ (length cs)) _ first (rw all at c.loop-before.invariant)

pub returns-clause-short : goal.returns-clause-short
returns-clause-short g c =
    text_short c.args.formula.now (omega (arith, c.variables-variables.ensures.is, c.variables-variables.ensures.small))
    (omega (arith, c.clauses-clauses.ensures.is, c.clauses-clauses.ensures.small))
