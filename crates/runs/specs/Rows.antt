-- Rows of inputs as bytes: one byte, 0 or 1, for each input of each frame, in order.
use Rattle.std.specs.Prelude.{◌≡◌, ℕ, Bool, true, false, List, map, length}
use Rattle.std.specs.List.{flat_map}
use Rattle.gates.specs.declared.gate.Gate.{Gate}
use Rattle.solutions.specs.Runs.{input_count, Run}

abbrev pub byte : Bool → ℕ
byte false = 0
byte true = 1

-- The bytes are these rows, one after the other. A board without inputs has no bytes, and runs as many frames as its depth d.
abbrev pub Rows : List Gate → ℕ → List ℕ → List (List Bool) → Type 0
Rows gs d bytes rows = Run gs rows × (flat_map (map byte) rows ≡ bytes) × (input_count gs ≡ 0 → length rows ≡ d)
