use Rattle.std.proofs.Common.{◌≡◌, true, false, length, get_or, set, pos, arith, length-set}
use Rattle.std.proofs.lemmas.Int.{to_z-of_z}
use Rattle.hints.specs.Bytes.{marks_of}
use Rattle.hints.specs.Hints.{value, names, assign}
use Rattle.hints.proofs.Bytes.{value_by_mark, set_assigns}
use Rattle.hints.proofs.Lines.{fit_turn, false_turn}
use Rattle.hints.proofs.falsify.Goals as goal

pub loop-literal-preserved : goal.loop-literal-preserved
loop-literal-preserved c =
    let bytes = c.loop-literal.marks in
    let l = get_or c.args.literals.now c.loop-literal.literal-index (pos 0) in
    let named : names (length bytes) l ≡ true = grind (arith, to_z-of_z, fit_turn) in
    let made : marks_of (set bytes c.place-at.result c.mark.result) ≡ assign (marks_of bytes) l false = grind (arith, to_z-of_z, set_assigns) in
    let said : value (marks_of bytes) l ≡ c.value.result = grind (arith, to_z-of_z, value_by_mark) in
    let size = length-set bytes c.place-at.result c.mark.result in
    (grind (arith, to_z-of_z, false_turn), grind (arith, to_z-of_z, fit_turn))
