use Rattle.std.proofs.Common.{◌<◌, ◌≤◌, subst}
use Rattle.sources.proofs.FrameBlocks.{turn_first, turn_later, frame_in, at_end}
use Rattle.sources.proofs.Parts.{frames_few}
use Rattle.sources.proofs.formula.Formula.in_frames.Goals as goal

pub returns-then-k-first : goal.returns-then-k-first
returns-then-k-first c =
    let o = c.outline-outline.ensures in
    turn_first _ _ _ _ _ _ (at_end _ _ _ _ o.wires c.place-first.ensures.is)
    c.if-k-first.true c.requires c.in_frame.ensures

pub in_frame-requires-2 : goal.in_frame-requires-2
in_frame-requires-2 c =
    let o = c.outline-outline.ensures in
    let few = frames_few c.args.self.now.kind _ (subst (λ d. d ≤ 8) o.depth c.outline-outline.result.shallow) in
    let fact = frame_in _ _ _ _ _ _ (subst (λ x. 0 < x) o.wires o.some)
    (at_end _ _ _ _ o.wires c.place-first.ensures.is)
    (at_end _ _ _ _ o.wires c.place-later.ensures.is) c.if-k-first.false few c.requires in
    record { shallow = fact.0; within = fact.1 }

pub returns : goal.returns
returns c =
    let o = c.outline-outline.ensures in
    turn_later _ _ _ _ _ _ _ (subst (λ x. 0 < x) o.wires o.some)
    (at_end _ _ _ _ o.wires c.place-first.ensures.is)
    (at_end _ _ _ _ o.wires c.place-later.ensures.is)
    c.if-k-first.false c.requires c.in_frame-2.ensures
