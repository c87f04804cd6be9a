-- The wires that a right side reads are those that its gate names.
use Rattle.std.proofs.Common.{ℕ, ◌<◌}
use Rattle.values.specs.Sides.{Rail, rail0, rail1, Right, fixed, one, either, both, two_boths}
use Rattle.gates.specs.declared.gate.Gate.{Gate}
use Rattle.gates.specs.declared.gate.Gate.TheVariants.{Input, Zero, One, Copy, Not, And, Or, Implies, Xor, Register}
use Rattle.gates.proofs.Names.{NamesBelow}
use Rattle.formulas.specs.Drives.{Drive, input, register, settled, drive}

abbrev pub wire : Rail ℕ → ℕ
wire (rail0 w) = w
wire (rail1 w) = w

abbrev pub Uses : ℕ → Right ℕ → Type 0
Uses n (fixed b) = Unit {0}
Uses n (one a) = wire a < n
Uses n (either a b) = (wire a < n) × (wire b < n)
Uses n (both a b) = (wire a < n) × (wire b < n)
Uses n (two_boths a b c e) = (wire a < n) × (wire b < n) × (wire c < n) × (wire e < n)

abbrev pub DrivesBelow : ℕ → Drive → Type 0
DrivesBelow n input = Unit {0}
DrivesBelow n (register y) = y < n
DrivesBelow n (settled s) = Uses n s.side0 × Uses n s.side1

pub drives_below : (n : ℕ) (g : Gate) → NamesBelow n g → DrivesBelow n (drive g)
drives_below n Input u = tt
drives_below n Zero u = (tt, tt)
drives_below n One u = (tt, tt)
drives_below n (Copy y) u = (u.0, u.0)
drives_below n (Not y) u = (u.0, u.0)
drives_below n (And y z) u = ((u.0, u.1.0), (u.0, u.1.0))
drives_below n (Or y z) u = ((u.0, u.1.0), (u.0, u.1.0))
drives_below n (Implies y z) u = ((u.0, u.1.0), (u.0, u.1.0))
drives_below n (Xor y z) u = ((u.0, u.1.0, u.0, u.1.0), (u.0, u.1.0, u.0, u.1.0))
drives_below n (Register y) u = u.0
