use Rattle.std.proofs.Common.{length, drop, arith}
use Rattle.buffers.proofs.Writing.{taken_whole}
use Rattle.dimacs.specs.Texts.{formula_text}
use Rattle.dimacs.proofs.whole.dimacs_text.Goals as goal

pub returns : goal.returns
returns c =
    let text = formula_text c.args.formula.now in
    let made = c.in_ok-text.ensures.len in
    let after = c.write_text.new.buffer in
    let long = c.as_mut_slice.ensures.len in
    taken_whole text c.as_mut_slice.result.now after (drop (length after) c.in_ok-text.text.items) c.in_ok-text.text.len
    (omega (arith, long, made, c.dimacs_length.ensures)) (omega (arith, made, c.dimacs_length.ensures))
    (c.write_text.ensures (omega (arith, long, made, c.dimacs_length.ensures)))
