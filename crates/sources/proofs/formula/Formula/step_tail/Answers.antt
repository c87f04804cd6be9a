use Rattle.sources.proofs.Steps.{turn_middle, turn_pairs}
use Rattle.sources.proofs.formula.Formula.step_tail.Goals as goal

pub returns-then-rest-n : goal.returns-then-rest-n
returns-then-rest-n c =
    let o = c.outline-outline.ensures in
    turn_middle _ _ _ _ _ _ _ o.wires o.property o.depth c.middle.result c.if-k-known.false c.if-rest-n.true c.middle.ensures

pub returns : goal.returns
returns c =
    let o = c.outline-outline.ensures in
    turn_pairs _ _ _ _ _ _ o.wires o.depth _ c.if-k-known.false c.if-rest-n.false c.in_pairs.ensures
