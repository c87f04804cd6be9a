use Rattle.std.proofs.Common.{not, length, get_or, sym, ap, ◌∙◌, arith}
use Rattle.std.specs.Slice.Iter.{iter_rest}
use Rattle.gates.specs.declared.gate.Gate.TheVariants.{Input}
use Rattle.solutions.specs.Solutions.{reads, wanted, frame_before}
use Rattle.solutions.proofs.OneRound.{round_none}
use Rattle.solutions.proofs.Rows.{changed_none}
use Rattle.frames.specs.Given.{gates_of, before_of, given_of}
use Rattle.frames.proofs.Sweeping.{turn_given, turn_left, turn_value, turn_row, turn_changed}
use Rattle.frames.proofs.frame.Given.sweep.Goals as goal

pub loop-wire-init : goal.loop-wire-init
loop-wire-init g c =
    let K = g.V.ValueKind.meaning in
    let s = c.args.self.now in
    (c.iter-inputs.ensures.rest, sym (round_none K (gates_of s) (given_of K s) c.args.row.now), changed_none K g.met.V.ValueKind.lawful (gates_of s) (given_of K s) c.args.row.now)

pub loop-wire-preserved : goal.loop-wire-preserved
loop-wire-preserved g c =
    let K = g.V.ValueKind.meaning in
    let L = g.met.V.ValueKind.lawful in
    let s = c.args.self.now in
    let gs = gates_of s in
    let G = given_of K s in
    let xs = c.args.row.now in
    let w = c.loop-wire.wire in
    let row = c.loop-wire.row in
    let old = c.index-row-wire.result in
    let value = c.wanted-value.result in
    let size = ap length c.gates-gate-items.ensures in
    let at = c.loop-wire.invariant.0 in
    let is = c.loop-wire.invariant.1 in
    let gate = ap (λ ys. get_or ys w Input) c.gates-gate-items.ensures in
    let given = turn_given K gs s.inputs.now (frame_before K (before_of s)) w (iter_rest c.loop-wire.inputs) at _ gate c.supply.result c.supply.ensures.given in
    let left = turn_left K gs s.inputs.now (frame_before K (before_of s)) w (iter_rest c.loop-wire.inputs) at _ gate (iter_rest c.supply.new.inputs) (omega arith) c.supply.ensures.left in
    let wants = c.wanted-value.ensures ∙ ap (λ y. wanted K y c.supply.result (reads K row)) gate in
    let turn = turn_value K L gs G xs w row is c.supply.result value given wants in
    let differs = c.ne-changed.ensures ∙ ap not (g.met.V.ValueKind.eq_agrees old value) in (
      left,
      turn_row K L gs G xs w row is value turn,
      turn_changed K L gs G xs w row is value old c.loop-wire.changed c.ne-changed.result (omega arith) turn c.index-row-wire.is differs c.loop-wire.invariant.2,
    )
