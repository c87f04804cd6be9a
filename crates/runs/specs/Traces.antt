-- A run's frames up to the first bad one, and what was found.
use Rattle.std.specs.Prelude.{◌≡◌, ℕ, suc, ◌-◌, ◌<◌, Bool, List, [], length, slice_get, slice_index_or, Ok, Err, Option, Result}
use Rattle.refusals.specs.declared.Failure.{Failure}
use Rattle.refusals.specs.declared.Failure.TheVariants.{Refused, Memory}
use Rattle.refusals.specs.declared.Refusal.TheVariants as refusal
use Rattle.values.specs.Single.{single}
use Rattle.values.specs.declared.single.Value.{Value}
use Rattle.gates.specs.declared.gate.Gate.{Gate}
use Rattle.boards.specs.Sheets.{Sheet}
use Rattle.solutions.specs.Solutions.{reads}
use Rattle.solutions.specs.Runs.{Frame, BadAt}
use Rattle.runs.specs.declared.trace.Verdict.{Verdict}
use Rattle.runs.specs.declared.trace.Verdict.TheVariants.{Bad, Good}
use Rattle.runs.specs.declared.trace.Trace.{Trace}
use Rattle.runs.specs.Rows.{Rows}
use Rattle.runs.specs.Tables.{rows_of}
use Rattle.runs.specs.Faults.{Fault}

-- These are the first m frames of the run, each the values of all wires.
abbrev pub HoldsFrames : List Gate → List (List Bool) → List (List Value) → ℕ → Type 0
HoldsFrames gs rows frames m =
    (length frames ≡ m)
    × ((k : ℕ) → k < m → (length (slice_index_or frames k []) ≡ length gs) × Frame gs rows (suc k) (reads single (slice_index_or frames k [])))

-- the last of the frames, if there is one
abbrev pub last_of : List (List Value) → Option (List Value)
last_of frames = slice_get frames (length frames - 1)

-- how many frames were worked out
abbrev pub frames_of : Verdict → ℕ
frames_of (Bad frame wire) = frame
frames_of (Good frames) = frames

-- Bad: that frame is the run's first bad one, and the wire is what is wrong with it. Good: these are all frames, and none is bad.
abbrev pub Judged : List Gate → ℕ → List (List Bool) → Verdict → Type 0
Judged gs p rows (Bad frame wire) =
    BadAt gs p rows frame × ((j : ℕ) → j < frame → BadAt gs p rows j → ⊥) × ((f : ℕ → Value) → Frame gs rows frame f → Fault (length gs) p f wire)
Judged gs p rows (Good frames) = (frames ≡ length rows) × ((j : ℕ) → BadAt gs p rows j → ⊥)

-- The trace has the run's frames up to the first bad one, and what was found.
abbrev pub Found : Sheet → List (List Bool) → Trace → Type 0
Found s rows t = HoldsFrames s.gates rows (rows_of t.frames) (frames_of t.verdict) × Judged s.gates s.property rows t.verdict

-- What tracing a board over bytes answers: the trace of the run whose rows they are; refused where they are the rows of no run.
abbrev pub Traced : Sheet → List ℕ → Result Trace Failure → Type 0
Traced s bytes (Ok t) = (rows : List (List Bool)) × Rows s.gates s.depth bytes rows × Found s rows t
Traced s bytes (Err (Refused e)) = (e ≡ refusal.Valuation) × ((rows : List (List Bool)) → Rows s.gates s.depth bytes rows → ⊥)
Traced s bytes (Err Memory) = Unit {0}
