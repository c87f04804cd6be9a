-- How long a gate file is.
use Rattle.std.proofs.Common.{◌*◌, ◌^◌, ◌<◌, ◌≤◌, List, [], ◌∷◌, length, arith, length-append}
use Rattle.std.specs.List.{flat_map}
use Rattle.gates.specs.declared.gate.Gate.{Gate}
use Rattle.gates.specs.declared.gate.Gate.TheVariants.{Input, Zero, One, Copy, Not, And, Or, Implies, Xor, Register}
use Rattle.gates.specs.Records.{record_of}
use Rattle.boards.specs.declared.board.Board.{Board}
use Rattle.boards.proofs.Closed.{board_few}
use Rattle.boards.specs.Sheets.{sheet}
use Rattle.gatefiles.specs.Files.{ending, file_of}

record_short : (g : Gate) → length (record_of g) ≤ 3
record_short Input = omega arith
record_short Zero = omega arith
record_short One = omega arith
record_short (Copy y) = omega arith
record_short (Not y) = omega arith
record_short (And y z) = omega arith
record_short (Or y z) = omega arith
record_short (Implies y z) = omega arith
record_short (Xor y z) = omega arith
record_short (Register y) = omega arith

records_short : (gs : List Gate) → length (flat_map record_of gs) ≤ 3 * length gs
records_short [] = omega arith
records_short (g ∷ gs) = omega (arith, record_short g, records_short gs, length-append (record_of g) (flat_map record_of gs))

pub file_short : (b : Board) → length (file_of (sheet b)) < 2 ^ 64
file_short b =
    let s = sheet b in
    omega (arith, records_short s.gates, board_few b, length-append (flat_map record_of s.gates) (ending s.property s.depth))
