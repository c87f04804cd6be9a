-- The values of one frame: the solutions of its wires, and the least of them.
use Rattle.std.specs.Prelude.{◌≡◌, ℕ, ◌<◌, List, length, Some, None, Option, slice_index_or}
use Rattle.values.specs.Kinds.{Kind}
use Rattle.gates.specs.declared.gate.Gate.{Gate}
use Rattle.gates.specs.declared.gate.Gate.TheVariants.{Input, Zero, One, Copy, Not, And, Or, Implies, Xor, Register}
use Rattle.gates.specs.Gates.{is_input, rank}

-- the gate of wire w
abbrev pub gate_at : List Gate → ℕ → Gate
gate_at gs w = slice_index_or gs w Input

-- a row of values, wire by wire
abbrev pub reads : {A : Type 0} → Kind A → List A → ℕ → A
reads K xs w = slice_index_or xs w K.undefined

-- The value that a wire should have in the frame f; x is what an input or a register is given.
abbrev pub wanted : {A : Type 0} → Kind A → Gate → A → (ℕ → A) → A
wanted K Input x f = x
wanted K Zero x f = K.zero
wanted K One x f = K.one
wanted K (Copy y) x f = f y
wanted K (Not y) x f = K.not (f y)
wanted K (And y z) x f = K.and (f y) (f z)
wanted K (Or y z) x f = K.or (f y) (f z)
wanted K (Implies y z) x f = K.implies (f y) (f z)
wanted K (Xor y z) x f = K.xor (f y) (f z)
wanted K (Register y) x f = x

-- Every wire has the value that it should have.
abbrev pub Solves : {A : Type 0} → Kind A → List Gate → (ℕ → A) → (ℕ → A) → Type 0
Solves K gs given f = (w : ℕ) → w < length gs → f w ≡ wanted K (gate_at gs w) (given w) f

-- A solution that lies below every other, wire by wire.
pub record Least {A : Type 0} (K : Kind A) (gs : List Gate) (given f : ℕ → A) : Type 0 where
  pub solves : Solves K gs given f
  pub lowest : (g : ℕ → A) → Solves K gs given g → (w : ℕ) → w < length gs → K.below (f w) (g w)

-- An input is given its value of the row of inputs, a register its source's value in the frame before.
abbrev pub supplied : {A : Type 0} → Kind A → Gate → A → (ℕ → A) → A
supplied K Input x before = x
supplied K Zero x before = K.undefined
supplied K One x before = K.undefined
supplied K (Copy y) x before = K.undefined
supplied K (Not y) x before = K.undefined
supplied K (And y z) x before = K.undefined
supplied K (Or y z) x before = K.undefined
supplied K (Implies y z) x before = K.undefined
supplied K (Xor y z) x before = K.undefined
supplied K (Register y) x before = before y

-- what a row, inputs in rising wire order, and the frame before give each wire
abbrev pub given : {A : Type 0} → Kind A → List Gate → List A → (ℕ → A) → ℕ → A
given K gs inputs before w = supplied K (gate_at gs w) (reads K inputs (rank is_input gs w)) before

-- Before the first frame there is none, and a register reads 0.
abbrev pub frame_before : {A : Type 0} → Kind A → Option (List A) → ℕ → A
frame_before K None = λ w. K.zero
frame_before K (Some xs) = reads K xs
