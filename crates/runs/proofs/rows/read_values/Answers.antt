use Rattle.std.proofs.Common.{[], ◌∷◌, vec_items, refl}
use Rattle.std.proofs.lemmas.Slice.{pushed}
use Rattle.std.proofs.lemmas.Result.{err_from_is_err_and}
use Rattle.runs.proofs.Reading.{values_turn, values_end, no_values}
use Rattle.runs.proofs.rows.read_values.Goals as goal

pub returns-in_err-value : goal.returns-in_err-value
returns-in_err-value c =
    let p = err_from_is_err_and c.from_residual-in_err-value.result c.from_residual-in_err-value.ensures.1 in
    rw (p.1, p.2) (no_values c.args.bytes.now c.loop-byte.byte-index c.in_err-value.field-0.0 c.loop-byte-test.true c.in_err-value.ensures)

pub loop-byte-preserved : goal.loop-byte-preserved
loop-byte-preserved c =
    let values = vec_items c.loop-byte.values in
    values_turn c.args.bytes.now c.loop-byte.byte-index values _ c.in_ok-value.value c.loop-byte-test.true c.loop-byte.invariant c.in_ok-value.ensures
    (pushed (c.in_ok-value.value ∷ []) (refl {a = values}) c.in_ok-push.was c.push.ensures.items)

pub returns : goal.returns
returns c = values_end c.args.bytes.now c.loop-byte.byte-index (vec_items c.loop-byte.values) c.loop-byte-test.false c.loop-byte.invariant
