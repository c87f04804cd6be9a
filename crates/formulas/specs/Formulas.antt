-- The two formulas of a board, clause for clause.
-- gs are the gates, n how many there are, p is the property wire and d the depth. A frame goes by the number i of frames before
-- it: frame 1 has i = 0. A variable goes by its number less one.
use Rattle.std.specs.Prelude.{ℕ, zero, suc, ◌+◌, ◌-◌, ◌*◌, ◌/◌, Bool, true, false, cond, List, [], ◌∷◌, ◌++◌, length}
use Rattle.values.specs.Sides.{Rail, rail0, rail1, Right, fixed, one, either, both, two_boths}
use Rattle.gates.specs.declared.gate.Gate.{Gate}
use Rattle.gates.specs.Gates.{is_register, rank}
use Rattle.clauses.specs.Clauses.{Clause, plus, minus, across}
use Rattle.formulas.specs.Drives.{Drive, input, register, settled, driver}

-- Variables

-- the rails of a wire in frame i: 2n variables a frame
abbrev pub rail_var : ℕ → ℕ → Rail ℕ → ℕ
rail_var n i (rail0 w) = 2 * n * i + 2 * w
rail_var n i (rail1 w) = 2 * n * i + 2 * w + 1

-- the undefined marks: in the base for every wire of every frame, in the step for every wire of the last frame alone
abbrev pub base_mark : ℕ → ℕ → ℕ → ℕ → ℕ
base_mark n d i w = 2 * n * d + n * i + w

abbrev pub step_mark : ℕ → ℕ → ℕ → ℕ
step_mark n d w = 2 * n * (d + 1) + w

-- how many registers there are
abbrev pub register_count : List Gate → ℕ
register_count gs = rank is_register gs (length gs)

-- how many pairs of frames have their later one before frame j
abbrev pub pairs_before : ℕ → ℕ
pairs_before j = j * (j - 1) / 2

-- the difference mark of the register at wire w for the frames i < j: a mark a register for each pair
abbrev pub difference_mark : List Gate → ℕ → ℕ → ℕ → ℕ → ℕ
difference_mark gs d i j w =
    2 * length gs * (d + 1) + length gs + register_count gs * (pairs_before j + i) + rank is_register gs w

abbrev pub base_variables : List Gate → ℕ → ℕ
base_variables gs d = 2 * length gs * d + length gs * d

abbrev pub step_variables : List Gate → ℕ → ℕ
step_variables gs d = 2 * length gs * (d + 1) + length gs + register_count gs * pairs_before (d + 1)

-- The clauses of an equation a = b, where x gives the variable of each rail of the right side b.
abbrev pub equation : (Rail ℕ → ℕ) → ℕ → Right ℕ → List Clause
equation x a (fixed t) = (cond t (plus a) (minus a) ∷ []) ∷ []
equation x a (one b) = (minus a ∷ plus (x b) ∷ []) ∷ (plus a ∷ minus (x b) ∷ []) ∷ []
equation x a (either b c) =
    (minus a ∷ plus (x b) ∷ plus (x c) ∷ []) ∷ (plus a ∷ minus (x b) ∷ []) ∷ (plus a ∷ minus (x c) ∷ []) ∷ []
equation x a (both b c) =
    (plus a ∷ minus (x b) ∷ minus (x c) ∷ []) ∷ (minus a ∷ plus (x b) ∷ []) ∷ (minus a ∷ plus (x c) ∷ []) ∷ []
equation x a (two_boths b c e f) =
    (minus a ∷ plus (x b) ∷ plus (x e) ∷ []) ∷ (minus a ∷ plus (x b) ∷ plus (x f) ∷ []) ∷
    (minus a ∷ plus (x c) ∷ plus (x e) ∷ []) ∷ (minus a ∷ plus (x c) ∷ plus (x f) ∷ []) ∷
    (plus a ∷ minus (x b) ∷ minus (x c) ∷ []) ∷ (plus a ∷ minus (x e) ∷ minus (x f) ∷ []) ∷ []

-- Frames

-- not both rails are up, and some rail is
abbrev pub apart : ℕ → ℕ → ℕ → Clause
apart n i w = minus (rail_var n i (rail0 w)) ∷ minus (rail_var n i (rail1 w)) ∷ []

abbrev pub defined : ℕ → ℕ → ℕ → Clause
defined n i w = plus (rail_var n i (rail0 w)) ∷ plus (rail_var n i (rail1 w)) ∷ []

-- A register starts at 0 in the first frame of the base and anywhere in that of the step; later its rail 0 is that of its
-- source in the frame before.
abbrev pub held : Bool → ℕ → ℕ → ℕ → ℕ → List Clause
held starts n zero w y = cond starts (equation (rail_var n zero) (rail_var n zero (rail0 w)) (fixed true)) []
held starts n (suc i) w y = equation (rail_var n i) (rail_var n (suc i) (rail0 w)) (one (rail0 y))

abbrev pub driven : Bool → ℕ → ℕ → ℕ → Drive → List Clause
driven starts n i w input = defined n i w ∷ []
driven starts n i w (register y) = defined n i w ∷ held starts n i w y
driven starts n i w (settled s) =
    equation (rail_var n i) (rail_var n i (rail0 w)) s.side0 ++ equation (rail_var n i) (rail_var n i (rail1 w)) s.side1

-- starts says whether this is the base
abbrev pub frame_clauses : Bool → List Gate → ℕ → List Clause
frame_clauses starts gs i =
    let n = length gs in
    across n (λ w. apart n i w ∷ driven starts n i w (driver gs w))

-- A mark that is up means that the wire is undefined; u w is the mark of wire w.
abbrev pub mark_clauses : ℕ → ℕ → (ℕ → ℕ) → List Clause
mark_clauses n i u =
    across n (λ w. (minus (u w) ∷ minus (rail_var n i (rail0 w)) ∷ []) ∷ (minus (u w) ∷ minus (rail_var n i (rail1 w)) ∷ []) ∷ [])

-- The base formula: the board runs from its start for d frames, and in one of them some wire is undefined or p is not 1.

abbrev pub base_frames : List Gate → ℕ → List Clause
base_frames gs d = across d (frame_clauses true gs)

abbrev pub base_marks : ℕ → ℕ → List Clause
base_marks n d = across d (λ i. mark_clauses n i (base_mark n d i))

abbrev pub base_bad : ℕ → ℕ → ℕ → Clause
base_bad n p d =
    across d (λ i. across n (λ w. plus (base_mark n d i w) ∷ [])) ++ across d (λ i. minus (rail_var n i (rail1 p)) ∷ [])

abbrev pub base : List Gate → ℕ → ℕ → List Clause
base gs p d = base_frames gs d ++ base_marks (length gs) d ++ base_bad (length gs) p d ∷ []

-- The step formula: the board runs from anywhere for d + 1 frames, the first d of them good and the last bad, and no two of
-- them have the same registers.

abbrev pub step_frames : List Gate → ℕ → List Clause
step_frames gs d = across (d + 1) (frame_clauses false gs)

-- in a good frame every wire is defined and p is 1
abbrev pub good_frame : ℕ → ℕ → ℕ → List Clause
good_frame n p i = across n (λ w. defined n i w ∷ []) ++ (plus (rail_var n i (rail1 p)) ∷ []) ∷ []

abbrev pub step_good : ℕ → ℕ → ℕ → List Clause
step_good n p d = across d (good_frame n p)

abbrev pub step_bad : ℕ → ℕ → ℕ → Clause
step_bad n p d = across n (λ w. plus (step_mark n d w) ∷ []) ++ minus (rail_var n d (rail1 p)) ∷ []

abbrev pub on_register : {A : Type 0} → Drive → List A → List A
on_register input c = []
on_register (register y) c = c
on_register (settled s) c = []

-- A difference mark e that is up means that the register at w differs in the frames i and j.
abbrev pub differs : ℕ → ℕ → ℕ → ℕ → ℕ → List Clause
differs n i j w e =
    (minus e ∷ plus (rail_var n i (rail0 w)) ∷ plus (rail_var n j (rail0 w)) ∷ []) ∷
    (minus e ∷ minus (rail_var n i (rail0 w)) ∷ minus (rail_var n j (rail0 w)) ∷ []) ∷ []

-- Some register differs in the frames i < j.
abbrev pub pair_clauses : List Gate → ℕ → ℕ → ℕ → List Clause
pair_clauses gs d i j =
    let n = length gs in
    across n (λ w. on_register (driver gs w) (differs n i j w (difference_mark gs d i j w)))
    ++ across n (λ w. on_register (driver gs w) (plus (difference_mark gs d i j w) ∷ [])) ∷ []

abbrev pub step_pairs : List Gate → ℕ → List Clause
step_pairs gs d = across (d + 1) (λ j. across j (λ i. pair_clauses gs d i j))

abbrev pub step : List Gate → ℕ → ℕ → List Clause
step gs p d =
    let n = length gs in
    step_frames gs d ++ step_good n p d ++ mark_clauses n d (step_mark n d) ++ step_bad n p d ∷ [] ++ step_pairs gs d
