-- The run that a valuation shows, and its first bad frame.
use Rattle.std.specs.Prelude.{ℕ, zero, suc, Bool, true, cond, ◌&&◌, List, [], ◌∷◌, map, length, replicate, Some, None, Option, ◌==◌, nat_le, slice_index, slice_index_or}
use Rattle.values.specs.Single.{single, is1}
use Rattle.values.specs.declared.single.Value.{Value}
use Rattle.values.specs.declared.single.Value.TheVariants.{Undefined, Zero, One}
use Rattle.gates.specs.declared.gate.Gate.{Gate}
use Rattle.clauses.specs.Clauses.{Clause, Valuation, some_true}
use Rattle.solutions.specs.Solutions.{reads, given}
use Rattle.solutions.specs.Rounds.{frame_row}
use Rattle.solutions.specs.Runs.{bit}
use Rattle.induction.specs.Readings.{run_of}

-- A valuation as bytes: one for each variable, 0 or 1.
abbrev pub all_bits : List ℕ → Bool
all_bits [] = true
all_bits (b ∷ bs) = nat_le b 1 && all_bits bs

abbrev pub valuation : List ℕ → Valuation
valuation bytes x = slice_index bytes x == 1

-- Every clause has a true literal.
abbrev pub satisfies : Valuation → List Clause → Bool
satisfies v [] = true
satisfies v (c ∷ cs) = some_true v c && satisfies v cs

-- the run of a valuation given as bytes: d rows, the rail 1 of the inputs
abbrev pub shown_run : List Gate → ℕ → List ℕ → List (List Bool)
shown_run gs d bytes = run_of gs (valuation bytes) d

-- the values of frame k of a run, frames counted from 1; before the first every wire is 0
abbrev pub frame_values : List Gate → List (List Bool) → ℕ → List Value
frame_values gs rows zero = replicate (length gs) Zero
frame_values gs rows (suc k) = frame_row single gs (given single gs (map bit (slice_index_or rows k [])) (reads single (frame_values gs rows k)))

abbrev pub one_on : Option ℕ → Option ℕ
one_on None = None
one_on (Some w) = Some (suc w)

abbrev pub lowest_undefined : List Value → Option ℕ
lowest_undefined [] = None
lowest_undefined (Undefined ∷ xs) = Some 0
lowest_undefined (Zero ∷ xs) = one_on (lowest_undefined xs)
lowest_undefined (One ∷ xs) = one_on (lowest_undefined xs)

abbrev pub or_else : Option ℕ → Option ℕ → Option ℕ
or_else (Some w) o = Some w
or_else None o = o

-- what is wrong with a frame: its lowest undefined wire, or else the property wire where that is not 1
abbrev pub fault : ℕ → List Value → Option ℕ
fault p row = or_else (lowest_undefined row) (cond (is1 (reads single row p)) None (Some p))

-- the first of the frames k + 1 to k + left with a fault, and the fault; 0 and 0 if there is none
abbrev pub by_fault : Option ℕ → ℕ → ℕ × ℕ → ℕ × ℕ
by_fault (Some w) k later = (suc k, w)
by_fault None k later = later

abbrev pub first_fault : (ℕ → Option ℕ) → ℕ → ℕ → ℕ × ℕ
first_fault test k zero = (0, 0)
first_fault test k (suc left) = by_fault (test (suc k)) k (first_fault test (suc k) left)

-- the first bad frame of a run among its first d, and its fault
abbrev pub first_bad : List Gate → ℕ → ℕ → List (List Bool) → ℕ × ℕ
first_bad gs p d rows = first_fault (λ k. fault p (frame_values gs rows k)) 0 d
