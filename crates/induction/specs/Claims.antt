-- What is proved of the two formulas and the runs of a board. Boards of any size, any depth, runs of any length.
use Rattle.std.specs.Prelude.{◌≡◌, ℕ, zero, suc, ◌<◌, ◌≤◌, Bool, true, false, cond, ◌≢◌, ◌↔◌, List, length}
use Rattle.values.specs.Sides.{Rail, Right, holds}
use Rattle.values.specs.Single.{is0, single}
use Rattle.values.specs.declared.single.Value.{Value}
use Rattle.values.specs.declared.single.Value.TheVariants.{Undefined, Zero, One}
use Rattle.gates.specs.declared.gate.Gate.{Gate}
use Rattle.clauses.specs.Clauses.{Valuation, Satisfies}
use Rattle.formulas.specs.Drives.{Drive, input, register, settled, driver}
use Rattle.formulas.specs.Formulas.{equation, frame_clauses, base, step}
use Rattle.solutions.specs.Solutions.{gate_at, wanted, Solves, Least}
use Rattle.solutions.specs.Runs.{Run, Bad, BadAt, BadWithin}
use Rattle.solutions.specs.Claims.{Named}
use Rattle.induction.specs.Readings.{Shows, ShowsBefore, seen, run_of}

-- Equations and frames

-- The clauses of a = b hold exactly when the value of a is that of the right side b.
abbrev pub Encodes : Type 0
Encodes =
    (v : Valuation) (x : Rail ℕ → ℕ) (a : ℕ) (b : Right ℕ) → Satisfies v (equation x a b) ↔ (v a ≡ holds (λ r. v (x r)) b)

-- What a register holds when its source had the value x in the frame before: only rail 0 is passed on, so what is not 0 is held
-- as 1, and so is an undefined value.
abbrev pub passed : Value → Value
passed x = cond (is0 x) Zero One

-- The value x of a register in frame i, where its source was b in the frame before: at the start of the base it is 0, at the
-- start of the step it is defined, and later it is what was passed on.
abbrev pub Held : ℕ → Bool → Value → Value → Type 0
Held zero true x b = x ≡ Zero
Held zero false x b = x ≢ Undefined
Held (suc i) starts x b = x ≡ passed b

-- An input is defined, a register holds what it should, and any other gate g has its value.
abbrev pub Obeyed : Bool → ℕ → (ℕ → Value) → (ℕ → Value) → ℕ → Gate → Drive → Type 0
Obeyed starts i before f w g input = f w ≢ Undefined
Obeyed starts i before f w g (register y) = Held i starts (f w) (before y)
Obeyed starts i before f w g (settled s) = f w ≡ wanted single g Undefined f

-- so for every wire of frame f, where before is the frame before it
abbrev pub Obeys : Bool → List Gate → ℕ → (ℕ → Value) → (ℕ → Value) → Type 0
Obeys starts gs i before f = (w : ℕ) → w < length gs → Obeyed starts i before f w (gate_at gs w) (driver gs w)

-- Where the valuation shows the frame f and the frame before it, the clauses of the frame hold exactly when every wire obeys.
abbrev pub FrameEncodes : Type 0
FrameEncodes =
    (gs : List Gate) → Named gs → (starts : Bool) (v : Valuation) (i : ℕ) (before f : ℕ → Value) →
    ShowsBefore v (length gs) i before → Shows v (length gs) i f →
    Satisfies v (frame_clauses starts gs i) ↔ Obeys starts gs i before f

-- Where the clauses of a frame hold, the valuation shows a frame: no wire has both rails up.
abbrev pub FrameShown : Type 0
FrameShown =
    (gs : List Gate) (starts : Bool) (v : Valuation) (i : ℕ) → Satisfies v (frame_clauses starts gs i) →
    Shows v (length gs) i (seen v (length gs) i)

-- Least solutions

-- A least solution that is defined on every wire is the only solution.
abbrev pub LeastDefined : Type 0
LeastDefined =
    (gs : List Gate) (given f : ℕ → Value) → Least single gs given f → ((w : ℕ) → w < length gs → f w ≢ Undefined) →
    (g : ℕ → Value) → Solves single gs given g → (w : ℕ) → w < length gs → g w ≡ f w

-- If every solution is defined on every wire, so is the least.
abbrev pub DefinedLeast : Type 0
DefinedLeast =
    (gs : List Gate) (given f : ℕ → Value) → Least single gs given f →
    ((g : ℕ → Value) → Solves single gs given g → (w : ℕ) → w < length gs → g w ≢ Undefined) →
    (w : ℕ) → w < length gs → f w ≢ Undefined

-- The base formula

-- Some valuation satisfies the base formula exactly when some run is bad within the depth.
abbrev pub BaseSays : Type 0
BaseSays =
    (gs : List Gate) (p d : ℕ) → Named gs → p < length gs →
    ((v : Valuation) × Satisfies v (base gs p d)) ↔ ((rows : List (List Bool)) × Run gs rows × BadWithin gs p d rows)

-- Frame k of the run is bad, and none before it is.
abbrev pub FirstBadAt : List Gate → ℕ → List (List Bool) → ℕ → Type 0
FirstBadAt gs p rows k = BadAt gs p rows k × ((j : ℕ) → j < k → BadAt gs p rows j → ⊥)

-- The run that a satisfying valuation shows has d rows, is bad within the depth, and has a first bad frame.
abbrev pub BaseShows : Type 0
BaseShows =
    (gs : List Gate) (p d : ℕ) → Named gs → p < length gs → (v : Valuation) → Satisfies v (base gs p d) →
    Run gs (run_of gs v d) × (length (run_of gs v d) ≡ d) × BadWithin gs p d (run_of gs v d)
    × ((k : ℕ) × (1 ≤ k) × (k ≤ d) × FirstBadAt gs p (run_of gs v d) k)

-- A register after an undefined source is 1 in the formula and undefined in the run. That hides no first bad frame: if frame i of
-- the valuation itself has an undefined wire or its property wire is not 1, the first bad frame of the run is not after it.
abbrev pub HiddenNever : Type 0
HiddenNever =
    (gs : List Gate) (p d : ℕ) → Named gs → p < length gs → (v : Valuation) → Satisfies v (base gs p d) →
    (i : ℕ) → i < d → Bad gs p (seen v (length gs) i) → (k : ℕ) → FirstBadAt gs p (run_of gs v d) k → k ≤ suc i

-- The step formula

-- If no run is bad within the depth and no valuation satisfies the step formula, no run is bad at any frame.
abbrev pub StepSays : Type 0
StepSays =
    (gs : List Gate) (p d : ℕ) → Named gs → p < length gs →
    ((rows : List (List Bool)) → Run gs rows → BadWithin gs p d rows → ⊥) → ((v : Valuation) → Satisfies v (step gs p d) → ⊥) →
    (rows : List (List Bool)) → Run gs rows → (k : ℕ) → BadAt gs p rows k → ⊥
