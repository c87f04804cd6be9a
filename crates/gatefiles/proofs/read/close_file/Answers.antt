use Rattle.std.proofs.Common.{arith}
use Rattle.boards.specs.Sheets.{drawn, sheet_of}
use Rattle.gatefiles.proofs.Reading.{closed_or_not}
use Rattle.gatefiles.proofs.read.close_file.Goals as goal

pub returns-in-Ok : goal.returns-in-Ok
returns-in-Ok c =
    let d = c.draw_file.new.drawing in
    closed_or_not c.args.file.now (sheet_of (drawn d) c.in-Ok.ending.property c.in-Ok.ending.depth) c.in-Ok.ensures
    (omega (arith, d.gates.ok.0, d.few)) c.close.result c.close.ensures
