-- What a gate names, and how the wires of a kind are ranked.
use Rattle.std.specs.Prelude.{ℕ, Bool, true, false, ◌&&◌, List, [], ◌∷◌, take, count_by, nat_lt}
use Rattle.gates.specs.declared.gate.Gate.{Gate}
use Rattle.gates.specs.declared.gate.Gate.TheVariants.{Input, Zero, One, Copy, Not, And, Or, Implies, Xor, Register}

-- the wires that a gate names, in the order of its record
abbrev pub wires : Gate → List ℕ
wires Input = []
wires Zero = []
wires One = []
wires (Copy y) = y ∷ []
wires (Not y) = y ∷ []
wires (And y z) = y ∷ z ∷ []
wires (Or y z) = y ∷ z ∷ []
wires (Implies y z) = y ∷ z ∷ []
wires (Xor y z) = y ∷ z ∷ []
wires (Register y) = y ∷ []

abbrev pub all_below : ℕ → List ℕ → Bool
all_below n [] = true
all_below n (y ∷ ys) = nat_lt y n && all_below n ys

-- every gate names wires below n alone
abbrev pub named : ℕ → List Gate → Bool
named n [] = true
named n (g ∷ gs) = all_below n (wires g) && named n gs

abbrev pub is_input : Gate → Bool
is_input Input = true
is_input Zero = false
is_input One = false
is_input (Copy y) = false
is_input (Not y) = false
is_input (And y z) = false
is_input (Or y z) = false
is_input (Implies y z) = false
is_input (Xor y z) = false
is_input (Register y) = false

abbrev pub is_register : Gate → Bool
is_register Input = false
is_register Zero = false
is_register One = false
is_register (Copy y) = false
is_register (Not y) = false
is_register (And y z) = false
is_register (Or y z) = false
is_register (Implies y z) = false
is_register (Xor y z) = false
is_register (Register y) = true

-- how many of the wires below w pass the test: the rank of wire w among them
abbrev pub rank : (Gate → Bool) → List Gate → ℕ → ℕ
rank test gs w = count_by test (take w gs)
