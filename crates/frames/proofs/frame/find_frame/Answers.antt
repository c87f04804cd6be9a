use Rattle.boards.specs.Sheets.{sheet}
use Rattle.boards.proofs.Closed.{board_own}
use Rattle.frames.proofs.Found.{found_bound, found_least}
use Rattle.frames.proofs.frame.find_frame.Goals as goal

pub returns-clause-least : goal.returns-clause-least
returns-clause-least g c =
    let board = c.args.board.now in
    found_least g.V.ValueKind.meaning g.met.V.ValueKind.lawful (sheet board).gates (board_own board) _ c.settle.new.row _ c.settle.ensures.after

pub returns-clause-bound : goal.returns-clause-bound
returns-clause-bound g c =
    let board = c.args.board.now in
    found_bound g.V.ValueKind.meaning g.met.V.ValueKind.lawful (sheet board).gates (board_own board) _ c.settle.result c.settle.ensures.answer
