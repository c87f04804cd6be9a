-- A record is one byte of kind, then a byte for each wire that it names.
use Rattle.std.specs.Prelude.{◌≡◌, ℕ, ◌+◌, cond, ◌&&◌, ◌≢◌, List, [], ◌∷◌, length, drop, Some, None, Option, ◌==◌, nat_lt, slice_index, slice_index_or}
use Rattle.gates.specs.declared.gate.Gate.{Gate}
use Rattle.gates.specs.declared.gate.Gate.TheVariants.{Input, Zero, One, Copy, Not, And, Or, Implies, Xor, Register}

abbrev pub record_of : Gate → List ℕ
record_of Input = 0 ∷ []
record_of Zero = 1 ∷ []
record_of One = 2 ∷ []
record_of (Copy y) = 3 ∷ y ∷ []
record_of (Not y) = 4 ∷ y ∷ []
record_of (And y z) = 5 ∷ y ∷ z ∷ []
record_of (Or y z) = 6 ∷ y ∷ z ∷ []
record_of (Implies y z) = 7 ∷ y ∷ z ∷ []
record_of (Xor y z) = 8 ∷ y ∷ z ∷ []
record_of (Register y) = 9 ∷ y ∷ []

-- how many wires a record of kind k names
abbrev pub arity : ℕ → ℕ
arity k = cond (nat_lt k 3) 0 (cond (nat_lt k 5) 1 (cond (nat_lt k 9) 2 1))

-- the gate of kind k, 0 to 9, that names y, or y and z
abbrev pub gate_of : ℕ → ℕ → ℕ → Gate
gate_of k y z =
    cond (k == 0) Input (cond (k == 1) Zero (cond (k == 2) One (cond (k == 3) (Copy y) (cond (k == 4) (Not y)
    (cond (k == 5) (And y z) (cond (k == 6) (Or y z) (cond (k == 7) (Implies y z) (cond (k == 8) (Xor y z) (Register y)))))))))

-- the record that the bytes begin with, and the bytes after it
abbrev pub first_record : List ℕ → Option (Gate × List ℕ)
first_record bs =
    let k = slice_index_or bs 0 10 in
    cond (nat_lt k 10 && nat_lt (arity k) (length bs)) (Some (gate_of k (slice_index bs 1) (slice_index bs 2), drop (1 + arity k) bs)) None

abbrev pub alone : Option (Gate × List ℕ) → Option Gate
alone None = None
alone (Some x) = elim x.1 [ [] ↦ Some x.0 | ◌∷◌ b bs ↦ None ]

-- the gate of bytes that are exactly one record
abbrev pub gate_in : List ℕ → Option Gate
gate_in bs = alone (first_record bs)

-- What the answer says of the bytes: they are the record of that gate, or of none.
abbrev pub Recorded : List ℕ → Option Gate → Type 0
Recorded bs None = (g : Gate) → bs ≢ record_of g
Recorded bs (Some g) = bs ≡ record_of g
