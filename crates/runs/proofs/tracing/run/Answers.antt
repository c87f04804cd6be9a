use Rattle.std.proofs.Common.{◌≡◌, ◌+◌, ◌*◌, ◌<◌, map, length, vec_items, sym, refl, ap, ◌∙◌, subst, add-one, arith}
use Rattle.std.proofs.lemmas.List.{length-map}
use Rattle.solutions.specs.Runs.{bit}
use Rattle.frames.specs.Frames.{long_before}
use Rattle.runs.specs.Traces.{HoldsFrames, Judged, last_of}
use Rattle.runs.specs.declared.trace.Verdict.TheVariants as verdict
use Rattle.runs.specs.Tables.{cut, rows_of}
use Rattle.runs.proofs.Cutting.{length_cut}
use Rattle.runs.proofs.Running.{own_wires, own_property, last_long, judged_good, frame_length}
use Rattle.runs.proofs.Turning.{row_long, turn_bad, turn_good, frames_more, length_more}
use Rattle.runs.proofs.tracing.run.Goals as goal

pub row_at-requires : goal.row_at-requires
row_at-requires g c =
    let t = c.args.rows.now in
    omega (arith, length_cut t.width t.count (vec_items t.values))

pub next_frame-requires : goal.next_frame-requires
next_frame-requires g c =
    let board = c.args.board.now in
    let gs = vec_items board.gates in
    let rows = rows_of c.args.rows.now in
    let i = c.frames.index in
    let values = vec_items c.frames.values in
    let last =
    c.last_frame-before.ensures ∙ ap (λ n. last_of (cut n i c.as_slice.result.now)) c.wires-wires.ensures ∙ ap (λ xs. last_of (cut (length gs) i xs)) c.as_slice.ensures.value in
    let within : i < length rows = omega arith in
    let long = row_long gs board.property (own_wires board) (own_property board) rows g.bits c.requires i c.row_at.result.now within c.row_at.ensures in
    record {
      inputs = omega (arith, long);
      before = ap (long_before (length gs)) last ∙ last_long gs g.bits (cut (length gs) i values) i c.frames.invariant.1.held;
    }

pub invariant_of-frames : goal.invariant_of-frames
invariant_of-frames g c =
    let gs = vec_items c.args.board.now.gates in
    let i = c.frames.index in
    let frame = vec_items c.in_ok-frame.frame in
    let size = frame_length gs (own_wires c.args.board.now) c.row_at.result.now frame _ c.in_ok-frame.ensures in
    let more =
    length_more (length gs) i (vec_items c.frames.values) c.as_slice-in-frames.result.now frame (vec_items c.extend_from_slice.new.self) c.frames.invariant.0 size
    c.as_slice-in-frames.ensures.value c.in_ok-extend_from_slice.ensures.items in
    record { whole = c.extend_from_slice.new.self.ok.0 ∙ more ∙ ap (λ n. (i + 1) * n) (sym c.wires-wires.ensures) }

pub returns-in-Some : goal.returns-in-Some
returns-in-Some g c =
    let board = c.args.board.now in
    let gs = vec_items board.gates in
    let rows = rows_of c.args.rows.now in
    let i = c.frames.index in
    let values = vec_items c.frames.values in
    let frame = vec_items c.in_ok-frame.frame in
    let last =
    c.last_frame-before.ensures ∙ ap (λ n. last_of (cut n i c.as_slice.result.now)) c.wires-wires.ensures ∙ ap (λ xs. last_of (cut (length gs) i xs)) c.as_slice.ensures.value in
    let within : i < length rows = omega arith in
    let size = frame_length gs (own_wires board) c.row_at.result.now frame _ c.in_ok-frame.ensures in
    let more =
    frames_more (length gs) i values c.as_slice-in-frames.result.now frame (vec_items c.extend_from_slice.new.self) c.frames.invariant.0 size
    c.as_slice-in-frames.ensures.value c.in_ok-extend_from_slice.ensures.items in
    turn_bad gs board.property (own_wires board) (own_property board) rows g.bits c.requires i c.row_at.result.now within c.row_at.ensures
    (cut (length gs) i values) c.frames.invariant.1 _ last frame c.in_ok-frame.ensures _ (more c.wires-wires.result c.wires-wires.ensures)
    c.as_slice-in-frames-2.result.now c.property-property.result c.as_slice-in-frames-2.ensures.value c.property-property.ensures (i + 1) (add-one i) c.in-Some.wire c.in-Some.ensures

pub frames-preserved : goal.frames-preserved
frames-preserved g c =
    let board = c.args.board.now in
    let gs = vec_items board.gates in
    let rows = rows_of c.args.rows.now in
    let i = c.frames.index in
    let values = vec_items c.frames.values in
    let frame = vec_items c.in_ok-frame.frame in
    let last =
    c.last_frame-before.ensures ∙ ap (λ n. last_of (cut n i c.as_slice.result.now)) c.wires-wires.ensures ∙ ap (λ xs. last_of (cut (length gs) i xs)) c.as_slice.ensures.value in
    let within : i < length rows = omega arith in
    let size = frame_length gs (own_wires board) c.row_at.result.now frame _ c.in_ok-frame.ensures in
    let lent = c.as_slice-in-frames.ensures.value in
    let after = c.in_ok-extend_from_slice.ensures.items in (
      length_more (length gs) i values c.as_slice-in-frames.result.now frame (vec_items c.extend_from_slice.new.self) c.frames.invariant.0 size lent after,
      turn_good gs board.property (own_wires board) (own_property board) rows g.bits c.requires i c.row_at.result.now within c.row_at.ensures
          (cut (length gs) i values) c.frames.invariant.1 _ last frame c.in_ok-frame.ensures _
          (frames_more (length gs) i values c.as_slice-in-frames.result.now frame (vec_items c.extend_from_slice.new.self) c.frames.invariant.0 size lent after (length gs) refl)
          c.as_slice-in-frames-2.result.now c.property-property.result c.as_slice-in-frames-2.ensures.value c.property-property.ensures (i + 1) (add-one i) c.in_default.ensures,
    )

pub returns : goal.returns
returns g c =
    let board = c.args.board.now in
    let gs = vec_items board.gates in
    let rows = rows_of c.args.rows.now in
    let i = c.frames.index in
    let values = vec_items c.frames.values in
    let n = c.len-count.result in
    let end : n ≡ i = omega (arith, c.frames.auto.index-end, c.frames-test.false) in
    let all : i ≡ length g.bits = sym end ∙ c.len-count.ensures ∙ ap length c.requires.1 ∙ length-map g.bits (map bit) in
    let same = ap (λ w. cut w n values) c.wires-wires.ensures ∙ ap (λ k. cut (length gs) k values) end in
    subst (λ xs. HoldsFrames gs g.bits xs n × Judged gs board.property g.bits (verdict.Good n)) (sym same)
    (judged_good gs board.property g.bits (cut (length gs) i values) i n c.frames.invariant.1 all end)
