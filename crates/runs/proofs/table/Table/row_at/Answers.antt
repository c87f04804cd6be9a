use Rattle.std.proofs.Common.{◌≡◌, ◌+◌, ◌-◌, ◌*◌, take, drop, vec_items, ap, ◌∙◌, sym, mul-le-mul_right, suc-mul, arith}
use Rattle.runs.proofs.Cutting.{cut_row}
use Rattle.runs.proofs.table.Table.row_at.Goals as goal

pub slice_bounds-result-end : goal.slice_bounds-result-end
slice_bounds-result-end c = omega (arith, mul-le-mul_right c.args.self.now.width c.requires, suc-mul c.args.index c.args.self.now.width)

pub returns : goal.returns
returns c =
    let t = c.args.self.now in
    let start = c.args.index * t.width in
    let size : start + t.width - start ≡ t.width = omega arith in
    ap (λ n. take n (drop start c.as_slice.result.now)) size ∙ ap (λ xs. take t.width (drop start xs)) c.as_slice.ensures.value
    ∙ sym (cut_row t.width t.count c.args.index (vec_items t.values) c.requires)
