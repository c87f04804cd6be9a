use Rattle.std.proofs.Common.{vec_items, ◌∙◌}
use Rattle.std.proofs.lemmas.Result.{err_from_is_err_and}
use Rattle.runs.proofs.Reading.{length_values, not_read_since, rows_read, no_rows_count, no_rows_bits}
use Rattle.runs.proofs.rows.read_rows.Goals as goal

pub returns-in_err-count : goal.returns-in_err-count
returns-in_err-count c =
    let board = c.args.board.now in
    let p = err_from_is_err_and c.from_residual.result c.from_residual.ensures.1 in
    let told = c.in_err-count.ensures in
    rw (p.1, p.2) (told.0, no_rows_count (vec_items board.gates) board.depth c.args.bytes.now c.inputs-width.result c.inputs-width.ensures told.1)

pub returns-in_err-values : goal.returns-in_err-values
returns-in_err-values c =
    let board = c.args.board.now in
    let p = err_from_is_err_and c.from_residual-in_err-values.result c.from_residual-in_err-values.ensures.1 in
    rw (p.1, p.2) (not_read_since _ _ c.in_err-values.field-0.0 (no_rows_bits (vec_items board.gates) board.depth c.args.bytes.now) c.in_err-values.ensures)

pub invariant_of-result : goal.invariant_of-result
invariant_of-result c =
    let size = length_values c.args.bytes.now (vec_items c.in_ok-values.values) c.in_ok-values.ensures in
    let count = c.in_ok-count.ensures.0 in
    record { whole = c.in_ok-values.values.ok.0 ∙ size ∙ count }

pub returns : goal.returns
returns c =
    let board = c.args.board.now in
    let counts = c.in_ok-count.ensures in (
      c.inputs-width.ensures,
      rows_read (vec_items board.gates) board.depth c.args.bytes.now c.inputs-width.result c.in_ok-count.count _ c.inputs-width.ensures
          (counts.0, λ e. counts.1 e ∙ c.depth.ensures) c.in_ok-values.ensures,
    )
