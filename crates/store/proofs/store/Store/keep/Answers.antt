use Rattle.std.proofs.Common.{ap, ◌∙◌}
use Rattle.shelf.specs.Lines.{find}
use Rattle.shelf.proofs.Lines.{map_insert}
use Rattle.store.specs.Stores.{lines_of}
use Rattle.store.proofs.Seeking.{seat_none}
use Rattle.store.proofs.store.Store.keep.Goals as goal

pub returns-in-Err-clause-map : goal.returns-in-Err-clause-map
returns-in-Err-clause-map c =
    let s = c.args.self.now in
    let free = seat_none c.args.number c.in-Err.at (lines_of s) c.in-Err.ensures in
    ap find c.insert.ensures.lines ∙ map_insert c.args.number c.args.literals.now (lines_of s) free.1
