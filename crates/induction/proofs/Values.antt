-- Values by their rails, and gates by their drives.
use Rattle.std.proofs.Common.{◌≡◌, ℕ, ◌<◌, Bool, true, false, ◌&&◌, ◌≢◌, rules}
use Rattle.values.specs.Sides.{Rail, rail0, rail1, Right, holds}
use Rattle.values.specs.Single.{is0, is1, from_rails, single}
use Rattle.values.specs.declared.single.Value.{Value}
use Rattle.values.specs.declared.single.Value.TheVariants.{Undefined, Zero}
use Rattle.gates.specs.declared.gate.Gate.{Gate}
use Rattle.gates.specs.Gates.{is_input, is_register}
use Rattle.formulas.specs.Drives.{Drive, input, register, settled, drive}
use Rattle.formulas.proofs.Uses.{wire, Uses}
use Rattle.solutions.specs.Solutions.{wanted, supplied}
use Rattle.solutions.specs.Runs.{bit}
use Rattle.induction.specs.Claims.{passed}

-- Values

pub from_own_rails : (x : Value) → x ≡ from_rails (is0 x) (is1 x)
from_own_rails = search rules

pub is0_from_rails : (b c : Bool) → is0 (from_rails b c) ≡ b
is0_from_rails = search rules

pub is1_from_rails : (b c : Bool) → (b ≡ true → c ≡ true → ⊥) → is1 (from_rails b c) ≡ c
is1_from_rails = search rules

pub zero_not_undefined : Zero ≢ Undefined
zero_not_undefined = search rules

pub bit≢Undefined : (b : Bool) → bit b ≢ Undefined
bit≢Undefined = search rules

pub bit_is1 : (x : Value) → x ≢ Undefined → x ≡ bit (is1 x)
bit_is1 = search rules

pub passed_same : (x : Value) → x ≢ Undefined → passed x ≡ x
passed_same = search rules

-- Right sides

-- the rails of a frame
abbrev pub rails : (ℕ → Value) → Rail ℕ → Bool
rails f (rail0 w) = is0 (f w)
rails f (rail1 w) = is1 (f w)

pub holds_same : (n : ℕ) (x y : Rail ℕ → Bool) → ((a : Rail ℕ) → wire a < n → x a ≡ y a) → (r : Right ℕ) → Uses n r → holds x r ≡ holds y r
holds_same = search rules

-- Gates

-- The value of a gate is that of its two right sides, and they do not hold both.
abbrev pub Sided : Gate → Drive → Type 0
Sided g input = Unit {0}
Sided g (register y) = Unit {0}
Sided g (settled s) =
    (f : ℕ → Value) → (wanted single g Undefined f ≡ from_rails (holds (rails f) s.side0) (holds (rails f) s.side1))
    × ((holds (rails f) s.side0 && holds (rails f) s.side1) ≡ false)

pub sided : (g : Gate) → Sided g (drive g)
sided = search rules

pub not_both : (a b : Bool) → (a && b) ≡ false → a ≡ true → b ≡ true → ⊥
not_both = search rules

-- What a gate wants of what it is given, and which test it passes.
abbrev pub Read : (ℕ → Value) → (ℕ → Value) → Value → Gate → Drive → Type 0
Read before f x g input = (wanted single g (supplied single g x before) f ≡ x) × (is_input g ≡ true) × (is_register g ≡ false)
Read before f x g (register y) = (wanted single g (supplied single g x before) f ≡ before y) × (is_input g ≡ false) × (is_register g ≡ true)
Read before f x g (settled s) =
    (wanted single g (supplied single g x before) f ≡ wanted single g Undefined f) × (is_input g ≡ false) × (is_register g ≡ false)

pub read : (before f : ℕ → Value) (x : Value) (g : Gate) → Read before f x g (drive g)
read = search rules
