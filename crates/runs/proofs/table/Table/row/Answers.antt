use Rattle.std.proofs.Common.{[], Some, ◌<◌, ◌≤◌, length, vec_items, ap, ◌∙◌, sym, arith}
use Rattle.std.proofs.lemmas.Option.{slice_get-get_or, slice_get_past}
use Rattle.runs.specs.Tables.{rows_of}
use Rattle.runs.proofs.Cutting.{length_cut}
use Rattle.runs.proofs.table.Table.row.Goals as goal

pub row_at-requires : goal.row_at-requires
row_at-requires c =
    let t = c.args.self.now in
    omega (arith, length_cut t.width t.count (vec_items t.values))

pub returns-then-index-len : goal.returns-then-index-len
returns-then-index-len c =
    let rows = rows_of c.args.self.now in
    let within : c.args.index < length rows = omega arith in
    ap Some c.row_at.ensures ∙ sym (slice_get-get_or rows c.args.index [] within)

pub returns-else-index-len : goal.returns-else-index-len
returns-else-index-len c =
    let rows = rows_of c.args.self.now in
    let past : length rows ≤ c.args.index = omega arith in
    sym (slice_get_past rows c.args.index past)
