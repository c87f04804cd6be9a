-- Small boards, and what the definitions say of them.
use Rattle.std.specs.Prelude.{◌≡◌, ℕ, Bool, true, false, List, [], ◌∷◌, length, None}
use Rattle.values.specs.Single.{single}
use Rattle.values.specs.declared.single.Value.{Value}
use Rattle.values.specs.declared.single.Value.TheVariants as value
use Rattle.gates.specs.declared.gate.Gate.{Gate}
use Rattle.gates.specs.declared.gate.Gate.TheVariants.{Input, Zero, One, Copy, Not, And, Or, Register}
use Rattle.clauses.specs.Clauses.{Clause, plus, minus}
use Rattle.formulas.specs.Formulas.{base, step, base_variables, step_variables}
use Rattle.solutions.specs.Solutions.{reads, given, frame_before}
use Rattle.solutions.specs.Rounds.{frame_rounds}
use Rattle.solutions.specs.Runs.{Frame, BadAt}

-- a gate that reads its own wire: 0, 1 and undefined solve it, and undefined is the least
abbrev pub self_and : List Gate
self_and = And 0 0 ∷ []

-- an inverter that reads its own wire: undefined alone solves it
abbrev pub self_not : List Gate
self_not = Not 0 ∷ []

-- an or and an inverter that read each other: 1 and 0 solve it too, and are not the least
abbrev pub or_not_loop : List Gate
or_not_loop = Or 0 1 ∷ Not 0 ∷ []

abbrev pub constant : List Gate
constant = One ∷ []

-- a constant 0 settles the gate that reads its own wire, and an inverter reads that
abbrev pub settled_loop : List Gate
settled_loop = Zero ∷ And 0 1 ∷ Not 1 ∷ []

-- a loop of wires 3, 4, 7 and 5 that settles where an input is 0, and not where both are 1; the last wire is 1 always
abbrev pub ring : List Gate
ring = Input ∷ Input ∷ Not 1 ∷ Or 2 5 ∷ And 0 3 ∷ And 1 7 ∷ Not 0 ∷ Or 6 4 ∷ One ∷ []

-- a register that changes in every frame
abbrev pub toggle : List Gate
toggle = Register 1 ∷ Not 0 ∷ []

-- copies that run backwards: each round settles one wire more
abbrev pub backward_copies : List Gate
backward_copies = Copy 1 ∷ Copy 2 ∷ One ∷ []

-- two frames of a board without inputs
abbrev pub no_inputs : List (List Bool)
no_inputs = [] ∷ [] ∷ []

-- one frame of a board with two inputs: 1 and 1, and 1 and 0
abbrev pub one_one : List (List Bool)
one_one = (true ∷ true ∷ []) ∷ []

abbrev pub one_zero : List (List Bool)
one_zero = (true ∷ false ∷ []) ∷ []

-- a frame that is written out
abbrev pub row : List Value → ℕ → Value
row xs = reads single xs

-- how many rounds the first frame of a board without inputs takes
abbrev pub first_frame_rounds : List Gate → ℕ
first_frame_rounds gs = frame_rounds single gs (given single gs [] (frame_before single None))

-- so many variables and clauses
abbrev pub Counts : ℕ → List Clause → ℕ → ℕ → Type 0
Counts V cs variables clauses = (V ≡ variables) × (length cs ≡ clauses)

pub record BoardsWorked : Type 0 where
  -- the values of frames
  pub self_and_frame : Frame self_and no_inputs 1 (row (value.Undefined ∷ []))
  pub self_not_frame : Frame self_not no_inputs 1 (row (value.Undefined ∷ []))
  pub or_not_loop_frame : Frame or_not_loop no_inputs 1 (row (value.Undefined ∷ value.Undefined ∷ []))
  pub constant_frame : Frame constant no_inputs 1 (row (value.One ∷ []))
  pub settled_loop_frame : Frame settled_loop no_inputs 1 (row (value.Zero ∷ value.Zero ∷ value.One ∷ []))
  pub ring_one_one_frame :
      Frame ring one_one 1 (row (value.One ∷ value.One ∷ value.Zero ∷ value.Undefined ∷ value.Undefined ∷ value.Undefined ∷ value.Zero ∷ value.Undefined ∷ value.One ∷ []))
  pub ring_one_zero_frame :
      Frame ring one_zero 1 (row (value.One ∷ value.Zero ∷ value.One ∷ value.One ∷ value.One ∷ value.Zero ∷ value.Zero ∷ value.One ∷ value.One ∷ []))
  pub toggle_first_frame : Frame toggle no_inputs 1 (row (value.Zero ∷ value.One ∷ []))
  pub toggle_second_frame : Frame toggle no_inputs 2 (row (value.One ∷ value.Zero ∷ []))
  -- which frames are bad
  pub ring_one_one_bad : BadAt ring 8 one_one 1
  pub ring_one_zero_good : BadAt ring 8 one_zero 1 → ⊥
  pub toggle_first_good : BadAt toggle 1 no_inputs 1 → ⊥
  pub toggle_second_bad : BadAt toggle 1 no_inputs 2
  -- how many rounds a frame takes, the last one that changes nothing counted
  pub self_and_rounds : first_frame_rounds self_and ≡ 1
  pub constant_rounds : first_frame_rounds constant ≡ 2
  pub backward_copies_rounds : first_frame_rounds backward_copies ≡ 4
  -- the base formula of the constant at depth 1, clause for clause
  pub constant_base :
      base constant 0 1 ≡ (minus 0 ∷ minus 1 ∷ []) ∷ (minus 0 ∷ []) ∷ (plus 1 ∷ []) ∷ (minus 2 ∷ minus 0 ∷ []) ∷ (minus 2 ∷ minus 1 ∷ []) ∷ (plus 2 ∷ minus 1 ∷ []) ∷ []
  pub constant_base_variables : base_variables constant 1 ≡ 3
  -- how many variables and clauses the formulas have
  pub settled_loop_base : Counts (base_variables settled_loop 1) (base settled_loop 2 1) 9 22
  pub settled_loop_step : Counts (step_variables settled_loop 1) (step settled_loop 2 1) 15 42
  pub ring_base : Counts (base_variables ring 1) (base ring 8 1) 27 64
  pub ring_step : Counts (step_variables ring 1) (step ring 8 1) 45 120
  pub toggle_base : Counts (base_variables toggle 2) (base toggle 1 2) 12 26
  pub toggle_step : Counts (step_variables toggle 2) (step toggle 1 2) 17 45
