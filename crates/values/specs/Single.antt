-- The single kind: undefined, 0 and 1.
use Rattle.std.specs.Prelude.{◌≡◌, ℕ, Bool, true, false}
use Rattle.values.specs.declared.single.Value.{Value}
use Rattle.values.specs.declared.single.Value.TheVariants.{Undefined, Zero, One}
use Rattle.values.specs.Sides.{Rail, rail0, rail1, holds, Sides, not_sides, and_sides, or_sides, implies_sides, xor_sides}
use Rattle.values.specs.Kinds.{Kind}

abbrev pub is0 : Value → Bool
is0 Undefined = false
is0 Zero = true
is0 One = false

abbrev pub is1 : Value → Bool
is1 Undefined = false
is1 Zero = false
is1 One = true

-- the value whose rails are up as told
abbrev pub from_rails : Bool → Bool → Value
from_rails true b = Zero
from_rails false true = One
from_rails false false = Undefined

abbrev pub up : Rail Value → Bool
up (rail0 x) = is0 x
up (rail1 x) = is1 x

-- A gate is 0 where its rail 0's right side holds, 1 where its rail 1's does, else undefined.
abbrev pub settled : Sides Value → Value
settled s = from_rails (holds up s.side0) (holds up s.side1)

-- Undefined is below every value, and 0 and 1 are below themselves alone.
abbrev pub Below : Value → Value → Type 0
Below Undefined y = Unit {0}
Below Zero y = y ≡ Zero
Below One y = y ≡ One

-- how many rails are up
abbrev pub known : Value → ℕ
known Undefined = 0
known Zero = 1
known One = 1

abbrev pub alike : Value → Value → Bool
alike Undefined Undefined = true
alike Undefined Zero = false
alike Undefined One = false
alike Zero Undefined = false
alike Zero Zero = true
alike Zero One = false
alike One Undefined = false
alike One Zero = false
alike One One = true

-- how a value is written: U, 0 or 1
abbrev pub letter : Value → ℕ
letter Undefined = 85
letter Zero = 48
letter One = 49

abbrev pub single : Kind Value
single = record {
  undefined = Undefined;
  zero = Zero;
  one = One;
  not = λ a. settled (not_sides a);
  and = λ a b. settled (and_sides a b);
  or = λ a b. settled (or_sides a b);
  implies = λ a b. settled (implies_sides a b);
  xor = λ a b. settled (xor_sides a b);
  below = Below;
  rank = known;
  height = 1;
  same = alike;
}
