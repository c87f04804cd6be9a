-- What drives a wire, with the right sides of its rails taken from the table of gates.
use Rattle.std.specs.Prelude.{ℕ, List, slice_index_or}
use Rattle.values.specs.Sides.{Sides, zero_sides, one_sides, copy_sides, not_sides, and_sides, or_sides, implies_sides, xor_sides}
use Rattle.gates.specs.declared.gate.Gate.{Gate}
use Rattle.gates.specs.declared.gate.Gate.TheVariants.{Input, Zero, One, Copy, Not, And, Or, Implies, Xor, Register}

-- a row of inputs, a source in the frame before, or the right sides of the two rails over wires
pub data Drive : Type 0 where
  input : Drive
  register : ℕ → Drive
  settled : Sides ℕ → Drive

abbrev pub drive : Gate → Drive
drive Input = input
drive Zero = settled zero_sides
drive One = settled one_sides
drive (Copy y) = settled (copy_sides y)
drive (Not y) = settled (not_sides y)
drive (And y z) = settled (and_sides y z)
drive (Or y z) = settled (or_sides y z)
drive (Implies y z) = settled (implies_sides y z)
drive (Xor y z) = settled (xor_sides y z)
drive (Register y) = register y

-- what drives wire w
abbrev pub driver : List Gate → ℕ → Drive
driver gs w = drive (slice_index_or gs w Input)
