use Rattle.std.proofs.Common.{◌%◌, refl, arith}
use Rattle.sources.specs.Meaning.{property_of}
use Rattle.sources.proofs.PairBlocks.{read_clause, turn_differ, turn_pair_long}
use Rattle.sources.proofs.formula.Formula.in_pair.Goals as goal

pub returns-then-r-marks : goal.returns-then-r-marks
returns-then-r-marks c =
    let said = read_clause c.differing.result (c.args.r % 2) _ _ c.differing.ensures (omega arith) in
    turn_differ _ _ _ _ _ refl _ _ _ _ _ _ _ c.outline.ensures.wires c.register_count-marks.ensures.is c.first_difference-first.ensures.is c.if-r-marks.true c.register-w.ensures.low c.register-w.ensures.high c.register-w.ensures.within refl said

pub returns-else-r-marks : goal.returns-else-r-marks
returns-else-r-marks c =
    turn_pair_long _ _ _ _ _ refl (property_of c.args.self.now) _ _ _ c.register_count-marks.ensures.is c.first_difference-first.ensures.is c.if-r-marks.false c.requires
