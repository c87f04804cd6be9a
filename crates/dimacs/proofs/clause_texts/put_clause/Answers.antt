use Rattle.std.proofs.Common.{pos, arith, to_z-of_z, w32, SFits, rules}
use Rattle.buffers.proofs.Pieces.{row_more}
use Rattle.dimacs.specs.Dimacs.{spaced}
use Rattle.dimacs.proofs.Turns.{literals_length, found, ended}
use Rattle.dimacs.proofs.clause_texts.put_clause.Goals as goal
use Rattle.dimacs.proofs.clause_texts.put_clause.Goals.{in-Some, in_default}

pub loop-place-preserved : goal.loop-place-preserved
loop-place-preserved g c =
    let i = c.loop-place.invariant in
    elim c.match-clause_literal.branch [
      | in-Some w ↦
          let l = w.in-Some.literal in
          let here = found c.args.formula.now c.args.number _ l w.in-Some.ensures in
          let fits : SFits w32 l = search rules in
          rw w.out-is (row_more _ g.met.S.Sink.then spaced _ _ _ _ _ i (pos 0) here.0 (rw here.1 (rw (to_z-of_z {z = l} fits) at w.put_literal.ensures)))
      | in_default w ↦
          let size = literals_length _ _ _ c.clause_length.ensures c.unwrap_or-length.ensures in
          let past = ended c.args.formula.now c.args.number _ w.in_default.ensures in
          absurd (omega arith)
    ]
