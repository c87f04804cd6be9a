use Rattle.std.proofs.Common.{vec_items, sym}
use Rattle.runs.proofs.Cutting.{length_cut}
use Rattle.runs.proofs.table.Table.len.Goals as goal

pub returns : goal.returns
returns c =
    let table = c.args.self.now in
    sym (length_cut table.width table.count (vec_items table.values))
