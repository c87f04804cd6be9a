-- What is proved of solutions, rounds and runs.
use Rattle.std.specs.Prelude.{◌≡◌, ℕ, suc, ◌<◌, ◌≤◌, Bool, true, ◌≢◌, List, map, length, Option}
use Rattle.std.specs.Option.{option_map}
use Rattle.values.specs.Kinds.{Kind}
use Rattle.values.specs.Single.{single}
use Rattle.values.specs.Lanes.{lane, lanes}
use Rattle.values.specs.declared.lanes.Lanes.{Lanes}
use Rattle.values.specs.declared.single.Value.{Value}
use Rattle.gates.specs.declared.gate.Gate.{Gate}
use Rattle.gates.specs.Gates.{named}
use Rattle.solutions.specs.Solutions.{reads, Least, given, frame_before}
use Rattle.solutions.specs.Rounds.{rounds, most_rounds, frame_rounds, frame_row}
use Rattle.solutions.specs.Runs.{Frame, BadAt, BadWithin}

-- every gate names wires of the board alone
abbrev pub Named : List Gate → Type 0
Named gs = named (length gs) gs ≡ true

-- The rounds end: the first that changes nothing is the last, it comes in time, and what it leaves is the least solution.
pub record RoundsEnd {A : Type 0} (K : Kind A) (gs : List Gate) (given : ℕ → A) : Type 0 where
  -- how many rounds change something
  pub changing : ℕ
  pub count : frame_rounds K gs given ≡ suc changing
  pub still : rounds K gs given (suc changing) ≡ rounds K gs given changing
  pub before : (j : ℕ) → j < changing → rounds K gs given (suc j) ≢ rounds K gs given j
  pub bound : frame_rounds K gs given ≤ most_rounds K gs
  pub size : length (frame_row K gs given) ≡ length gs
  pub least : Least K gs given (reads K (frame_row K gs given))

-- A frame has one least solution.
abbrev pub LeastUnique : {A : Type 0} → Kind A → Type 0
LeastUnique {A} K = (gs : List Gate) (given f g : ℕ → A) → Least K gs given f → Least K gs given g → (w : ℕ) → w < length gs → f w ≡ g w

-- Every frame of a kind comes to its end.
abbrev pub FramesEnd : {A : Type 0} → Kind A → Type 0
FramesEnd {A} K = (gs : List Gate) → Named gs → (given : ℕ → A) → RoundsEnd K gs given

-- A map between kinds that keeps the undefined value, 0, 1 and the gates.
pub record Keeps {A B : Type 0} (K : Kind A) (J : Kind B) (h : A → B) : Type 0 where
  pub undefined : h K.undefined ≡ J.undefined
  pub zero : h K.zero ≡ J.zero
  pub one : h K.one ≡ J.one
  pub not : (a : A) → h (K.not a) ≡ J.not (h a)
  pub and : (a b : A) → h (K.and a b) ≡ J.and (h a) (h b)
  pub or : (a b : A) → h (K.or a b) ≡ J.or (h a) (h b)
  pub implies : (a b : A) → h (K.implies a b) ≡ J.implies (h a) (h b)
  pub xor : (a b : A) → h (K.xor a b) ≡ J.xor (h a) (h b)

-- The lanes of a lane frame are single frames: lane k of its values is the single frame on lane k of the inputs and of the
-- frame before.
abbrev pub LanesApart : Type 0
LanesApart =
    (k : ℕ) → k < 64 → (gs : List Gate) → Named gs → (inputs : List Lanes) (before : Option (List Lanes)) →
    map (lane k) (frame_row lanes gs (given lanes gs inputs (frame_before lanes before)))
    ≡ frame_row single gs (given single gs (map (lane k) inputs) (frame_before single (option_map (map (lane k)) before)))

-- Every frame of every run is there, and one only.
abbrev pub FramesExist : Type 0
FramesExist = (gs : List Gate) → Named gs → (rows : List (List Bool)) (k : ℕ) → (f : ℕ → Value) × Frame gs rows k f

abbrev pub FramesUnique : Type 0
FramesUnique =
    (gs : List Gate) → Named gs → (rows : List (List Bool)) (k : ℕ) (f g : ℕ → Value) → Frame gs rows k f → Frame gs rows k g →
    (w : ℕ) → w < length gs → f w ≡ g w

-- A run that is bad within d has a first bad frame.
abbrev pub FirstBad : Type 0
FirstBad =
    (gs : List Gate) (p d : ℕ) → Named gs → p < length gs → (rows : List (List Bool)) → BadWithin gs p d rows →
    (k : ℕ) × (k ≤ d) × BadAt gs p rows k × ((j : ℕ) → j < k → BadAt gs p rows j → ⊥)
