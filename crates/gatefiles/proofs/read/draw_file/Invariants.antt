use Rattle.std.proofs.Common.{◌≡◌, List, ◌++◌, length, take, vec_items}
use Rattle.std.specs.List.{flat_map}
use Rattle.gates.specs.declared.gate.Gate.{Gate}
use Rattle.gates.specs.Records.{record_of}
use Rattle.gatefiles.proofs.Reading.{room_at}
use Rattle.gatefiles.proofs.read.draw_file.Given as goal

-- gs are the records read so far, of which the drawing has the first 256.
abbrev pub invariant-records : goal.invariant-records
invariant-records l =
    (gs : List Gate) × (l.file ≡ flat_map record_of gs ++ l.rest) × (vec_items l.drawing.gates ≡ take 256 gs)
    × (l.room ≡ room_at (length gs))

abbrev pub decreases-records : goal.decreases-records
decreases-records l = length l.rest
