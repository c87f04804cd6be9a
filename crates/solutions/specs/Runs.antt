-- The frames of a run, and what makes a frame bad. Boards of any size, runs of any length.
use Rattle.std.specs.Prelude.{◌≡◌, ℕ, zero, suc, ◌<◌, ◌≤◌, Bool, true, false, ◌≢◌, ◌⊎◌, List, [], map, length, slice_index_or}
use Rattle.std.specs.List.{AllByRecursion as AllOf}
use Rattle.values.specs.Single.{single}
use Rattle.values.specs.declared.single.Value.{Value}
use Rattle.values.specs.declared.single.Value.TheVariants.{Undefined, Zero, One}
use Rattle.gates.specs.declared.gate.Gate.{Gate}
use Rattle.gates.specs.Gates.{is_input, rank}
use Rattle.solutions.specs.Solutions.{Least, given}

abbrev pub bit : Bool → Value
bit false = Zero
bit true = One

-- how many inputs a board has
abbrev pub input_count : List Gate → ℕ
input_count gs = rank is_input gs (length gs)

-- A run: a row of one bit for each input, a row for each frame.
abbrev pub Run : List Gate → List (List Bool) → Type 0
Run gs rows = AllOf (λ row. length row ≡ input_count gs) rows

-- f is frame k of the run, frames counted from 1; what stands before frame 1 is 0 on every wire.
abbrev pub Frame : List Gate → List (List Bool) → ℕ → (ℕ → Value) → Type 0
Frame gs rows zero f = (w : ℕ) → w < length gs → f w ≡ Zero
Frame gs rows (suc k) f = (before : ℕ → Value) × Frame gs rows k before × Least single gs (given single gs (map bit (slice_index_or rows k [])) before) f

-- A frame is bad if some wire is undefined or the property wire is not 1.
abbrev pub Bad : List Gate → ℕ → (ℕ → Value) → Type 0
Bad gs p f = ((w : ℕ) × (w < length gs) × (f w ≡ Undefined)) ⊎ (f p ≢ One)

abbrev pub BadAt : List Gate → ℕ → List (List Bool) → ℕ → Type 0
BadAt gs p rows k = (0 < k) × (k ≤ length rows) × ((f : ℕ → Value) × Frame gs rows k f × Bad gs p f)

abbrev pub BadWithin : List Gate → ℕ → ℕ → List (List Bool) → Type 0
BadWithin gs p d rows = (k : ℕ) × (k ≤ d) × BadAt gs p rows k
