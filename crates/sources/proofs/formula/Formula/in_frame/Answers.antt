use Rattle.std.proofs.Common.{get_or, ap, ◌∙◌}
use Rattle.gates.specs.declared.gate.Gate.TheVariants.{Input}
use Rattle.formulas.specs.Drives.{drive}
use Rattle.formulas.specs.Kinds.{starts}
use Rattle.sources.proofs.FrameBlocks.{turn_wire}
use Rattle.sources.proofs.formula.Formula.in_frame.Goals as goal

pub returns : goal.returns
returns c =
    let o = c.outline.ensures in
    let f = c.frame-frame.ensures in
    turn_wire _ _ _ _ _ _ _ _ _ _ _ (ap starts (f.kind ∙ o.kind)) f.before c.find-w.ensures.within c.find-w.ensures.low c.find-w.ensures.high
    (ap (λ gs. drive (get_or gs c.find-w.result Input)) c.gates.ensures) c.place.ensures.is (f.wires ∙ o.wires) c.wire_clause.ensures
