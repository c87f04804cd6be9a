-- Where the clauses of a formula stand, and how a clause is handed over.
use Rattle.std.specs.Prelude.{◌≡◌, ℕ, zero, suc, ◌+◌, ◌*◌, ◌<◌, ◌≤◌, Bool, List, [], ◌∷◌, ◌++◌, length, Some, None, Option}
use Rattle.values.specs.Sides.{rail1}
use Rattle.gates.specs.declared.gate.Gate.{Gate}
use Rattle.clauses.specs.Clauses.{Clause, plus, minus, across}
use Rattle.formulas.specs.declared.kind.FormulaKind.{FormulaKind}
use Rattle.formulas.specs.declared.kind.FormulaKind.TheVariants.{Base, Step}
use Rattle.formulas.specs.Formulas.{rail_var, base_marks, base_bad, mark_clauses, step_mark, step_bad, step_good, step_pairs, register_count, pairs_before}
use Rattle.wireclauses.specs.Literals.{few_of}
use Rattle.wireclauses.specs.Sizes.{register_size}
use Rattle.sources.specs.declared.shape.LongClause.{LongClause}
use Rattle.sources.specs.declared.shape.Shape.{Shape}
use Rattle.sources.specs.declared.shape.Shape.TheVariants.{Short, Long}
use Rattle.sources.specs.declared.pairs.Pair.{Pair}
use Rattle.sources.specs.Rows.{plain_before, registers_before}

-- how many clauses stand before wire w in a frame in which a register has c
abbrev pub place : List Gate → ℕ → ℕ → ℕ
place gs c w = plain_before gs w + c * registers_before gs w

-- how many clauses stand before the frame with i before it
abbrev pub frame_place : Bool → List Gate → ℕ → ℕ
frame_place starts gs zero = 0
frame_place starts gs (suc i) = place gs (register_size starts 0) (length gs) + i * place gs 4 (length gs)

-- how many frames a formula has
abbrev pub frames_of : FormulaKind → ℕ → ℕ
frames_of Base d = d
frames_of Step d = d + 1

-- so many marks from the first on, and then that the property fails in one of so many frames from a frame on
abbrev pub row_of : ℕ → ℕ → ℕ → ℕ → ℕ → ℕ → Clause
row_of n p first count frame frames =
    across count (λ x. plus (first + x) ∷ []) ++ across frames (λ i. minus (rail_var n (frame + i) (rail1 p)) ∷ [])

abbrev pub long_clause : ℕ → ℕ → LongClause → Clause
long_clause n p c = row_of n p c.first c.marks c.frame c.frames

abbrev pub clause_of : ℕ → ℕ → Shape → Clause
clause_of n p (Short c) = few_of c
clause_of n p (Long c) = long_clause n p c

-- the later frame of the q-th pair, if it is d at most
abbrev pub LateAt : ℕ → ℕ → Option ℕ → Type 0
LateAt d q None = pairs_before (d + 1) ≤ q
LateAt d q (Some late) = (1 ≤ late) × (late ≤ d) × (pairs_before late ≤ q) × (q < pairs_before late + late)

-- the q-th pair of frames, counted by the later one, if that one is d at most
abbrev pub PairAt : ℕ → ℕ → Option Pair → Type 0
PairAt d q None = pairs_before (d + 1) ≤ q
PairAt d q (Some pair) = (pair.early < pair.late) × (pair.late ≤ d) × (pairs_before pair.late + pair.early ≡ q)

-- the parts of the formulas behind their frames
abbrev pub step_middle : ℕ → ℕ → ℕ → List Clause
step_middle n p d = mark_clauses n d (step_mark n d) ++ step_bad n p d ∷ []

abbrev pub base_tail : ℕ → ℕ → ℕ → List Clause
base_tail n p d = base_marks n d ++ base_bad n p d ∷ []

abbrev pub step_tail : List Gate → ℕ → ℕ → List Clause
step_tail gs p d = step_good (length gs) p d ++ (step_middle (length gs) p d ++ step_pairs gs d)

-- the first difference mark of the q-th pair of frames
abbrev pub first_difference : List Gate → ℕ → ℕ → ℕ
first_difference gs d q = 2 * length gs * (d + 1) + length gs + register_count gs * q
