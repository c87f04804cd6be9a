-- The code's rails, right sides and drives as those of the table of gates, and the clauses of each shape of right side.
use Rattle.std.specs.Prelude.{ℕ, Bool, List}
use Rattle.values.specs.Sides.{Rail, rail0, rail1, Right, fixed, one, either, both, two_boths, Sides}
use Rattle.clauses.specs.Clauses.{Clause}
use Rattle.formulas.specs.Drives.{Drive, input, register, settled}
use Rattle.formulas.specs.Formulas.{equation}
use Rattle.wireclauses.specs.declared.sides.Rail as code_rail
use Rattle.wireclauses.specs.declared.sides.Right as code_right
use Rattle.wireclauses.specs.declared.sides.Drive as code_drive
use Rattle.wireclauses.specs.declared.sides.Rail.TheVariants.{Rail0, Rail1}
use Rattle.wireclauses.specs.declared.sides.Right.TheVariants.{Fixed, Same, Either, Both, TwoBoths}
use Rattle.wireclauses.specs.declared.sides.Drive.TheVariants.{Input, Register, Settled}

abbrev pub rail_of : code_rail.Rail → Rail ℕ
rail_of (Rail0 w) = rail0 w
rail_of (Rail1 w) = rail1 w

abbrev pub right_of : code_right.Right → Right ℕ
right_of (Fixed t) = fixed t
right_of (Same a) = one (rail_of a)
right_of (Either a b) = either (rail_of a) (rail_of b)
right_of (Both a b) = both (rail_of a) (rail_of b)
right_of (TwoBoths a b c e) = two_boths (rail_of a) (rail_of b) (rail_of c) (rail_of e)

abbrev pub sides_of : code_right.Right → code_right.Right → Sides ℕ
sides_of r s = record { side0 = right_of r; side1 = right_of s }

abbrev pub drive_of : code_drive.Drive → Drive
drive_of Input = input
drive_of (Register y) = register y
drive_of (Settled r s) = settled (sides_of r s)

-- The equations of a variable with other variables, whichever rails these are.
abbrev pub variable_of : Rail ℕ → ℕ
variable_of (rail0 x) = x
variable_of (rail1 x) = x

-- a is fixed; a = b; a = b or c; a = b and c; a = (b and c) or (e and f)
abbrev pub fixed_clauses : ℕ → Bool → List Clause
fixed_clauses a t = equation variable_of a (fixed t)

abbrev pub same_clauses : ℕ → ℕ → List Clause
same_clauses a b = equation variable_of a (one (rail0 b))

abbrev pub either_clauses : ℕ → ℕ → ℕ → List Clause
either_clauses a b c = equation variable_of a (either (rail0 b) (rail0 c))

abbrev pub both_clauses : ℕ → ℕ → ℕ → List Clause
both_clauses a b c = equation variable_of a (both (rail0 b) (rail0 c))

abbrev pub two_boths_clauses : ℕ → ℕ → ℕ → ℕ → ℕ → List Clause
two_boths_clauses a b c e f = equation variable_of a (two_boths (rail0 b) (rail0 c) (rail0 e) (rail0 f))
