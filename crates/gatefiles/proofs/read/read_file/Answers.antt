use Rattle.std.proofs.Common.{arith, rules}
use Rattle.std.proofs.lemmas.List.{nil_from_length}
use Rattle.boards.specs.Sheets.{drawn}
use Rattle.gatefiles.proofs.Reading.{handed_back, reread}
use Rattle.gatefiles.proofs.read.read_file.Goals as goal

pub returns : goal.returns
returns c =
    let gs = drawn c.args.drawing in
    let bytes = c.args.file.now in
    let read = handed_back gs bytes (nil_from_length gs (omega arith)) c.close_file.result c.map_err.result _ c.close_file.ensures c.map_err.ensures.cases (λ u v l. search rules) in
    record { read = read; again = reread gs bytes c.map_err.result read }
