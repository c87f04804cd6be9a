-- The table of gates: the right sides of the equations of a gate's two rails.
-- It serves the values of a gate, and the clauses that say them. X is whatever an operand is: a value, or a wire.
use Rattle.std.specs.Prelude.{Bool, true, false, ◌&&◌, ◌||◌}

-- A value on two rails: rail 0 is up where it is 0, rail 1 where it is 1.
pub data Rail (X : Type 0) : Type 0 where
  rail0 : X → Rail X
  rail1 : X → Rail X

pub data Right (X : Type 0) : Type 0 where
  fixed : Bool → Right X
  one : Rail X → Right X
  either : Rail X → Rail X → Right X
  both : Rail X → Rail X → Right X
  two_boths : Rail X → Rail X → Rail X → Rail X → Right X

abbrev pub holds : {X : Type 0} → (Rail X → Bool) → Right X → Bool
holds up (fixed b) = b
holds up (one a) = up a
holds up (either a b) = up a || up b
holds up (both a b) = up a && up b
holds up (two_boths a b c e) = (up a && up b) || (up c && up e)

pub record Sides (X : Type 0) : Type 0 where
  pub side0 : Right X
  pub side1 : Right X

abbrev pub zero_sides : {X : Type 0} → Sides X
zero_sides = record { side0 = fixed true; side1 = fixed false }

abbrev pub one_sides : {X : Type 0} → Sides X
one_sides = record { side0 = fixed false; side1 = fixed true }

abbrev pub copy_sides : {X : Type 0} → X → Sides X
copy_sides y = record { side0 = one (rail0 y); side1 = one (rail1 y) }

abbrev pub not_sides : {X : Type 0} → X → Sides X
not_sides y = record { side0 = one (rail1 y); side1 = one (rail0 y) }

abbrev pub and_sides : {X : Type 0} → X → X → Sides X
and_sides y z = record { side0 = either (rail0 y) (rail0 z); side1 = both (rail1 y) (rail1 z) }

abbrev pub or_sides : {X : Type 0} → X → X → Sides X
or_sides y z = record { side0 = both (rail0 y) (rail0 z); side1 = either (rail1 y) (rail1 z) }

abbrev pub implies_sides : {X : Type 0} → X → X → Sides X
implies_sides y z = record { side0 = both (rail1 y) (rail0 z); side1 = either (rail0 y) (rail1 z) }

abbrev pub xor_sides : {X : Type 0} → X → X → Sides X
xor_sides y z = record {
  side0 = two_boths (rail0 y) (rail0 z) (rail1 y) (rail1 z);
  side1 = two_boths (rail0 y) (rail1 z) (rail1 y) (rail0 z);
}
