-- The base formula's parts.
use Rattle.std.proofs.Common.{◌≡◌, ℕ, List, [], ◌∷◌, ◌++◌, length, append_assoc}
use Rattle.gates.specs.declared.gate.Gate.{Gate}
use Rattle.formulas.specs.Formulas.{base_frames, base_marks, base_bad, base}

pub base_is : (gs : List Gate) (p d : ℕ) → base gs p d ≡ base_frames gs d ++ (base_marks (length gs) d ++ base_bad (length gs) p d ∷ [])
base_is gs p d = append_assoc (base_frames gs d) (base_marks (length gs) d) (base_bad (length gs) p d ∷ [])
