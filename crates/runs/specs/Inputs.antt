-- Rows of inputs as values, and bytes that are the rows of no run.
use Rattle.std.specs.Prelude.{◌≡◌, ◌≢◌, ℕ, ◌*◌, Bool, List, map}
use Rattle.refusals.specs.declared.Failure.{Failure}
use Rattle.refusals.specs.declared.Failure.TheVariants.{Refused, Memory}
use Rattle.refusals.specs.declared.Refusal.TheVariants as refusal
use Rattle.values.specs.declared.single.Value.{Value}
use Rattle.gates.specs.declared.gate.Gate.{Gate}
use Rattle.solutions.specs.Runs.{bit, Run}
use Rattle.runs.specs.Rows.{byte, Rows}

-- x is the value of the bit that the byte is.
unfoldable pub IsRead : ℕ → Value → Type 0
IsRead n x = (b : Bool) × (byte b ≡ n) × (x ≡ bit b)

-- The byte is no bit, and refused as no valuation.
unfoldable pub IsUnread : ℕ → Failure → Type 0
IsUnread n e = (e ≡ Refused refusal.Valuation) × ((b : Bool) → byte b ≢ n)

-- Refused as no valuation, since P; or there was no memory.
abbrev pub NotRead : Type 0 → Failure → Type 0
NotRead P (Refused e) = (e ≡ refusal.Valuation) × P
NotRead P Memory = Unit {0}

-- the bytes are these bits
abbrev pub Bits : List ℕ → List Bool → Type 0
Bits bytes bits = map byte bits ≡ bytes

-- The values are those of the bits that the bytes are.
abbrev pub ValuesOf : List ℕ → List Value → Type 0
ValuesOf bytes values = (bits : List Bool) × Bits bytes bits × (values ≡ map bit bits)

-- The values are those of the rows of a run.
abbrev pub HoldsRows : List Gate → List (List Value) → List (List Bool) → Type 0
HoldsRows gs values rows = Run gs rows × (values ≡ map (map bit) rows)

abbrev pub RowsRead : List Gate → ℕ → List ℕ → List (List Value) → Type 0
RowsRead gs d bytes values = (rows : List (List Bool)) × Rows gs d bytes rows × HoldsRows gs values rows

-- count rows of so many bytes; of rows without bytes there are d.
abbrev pub Counts : ℕ → ℕ → ℕ → ℕ → Type 0
Counts width d size count = (size ≡ count * width) × (width ≡ 0 → count ≡ d)
