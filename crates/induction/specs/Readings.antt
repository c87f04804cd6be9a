-- What a valuation shows of a board: the frames, and the rows of inputs.
-- n is how many wires there are. A frame goes by the number i of frames before it, as in the formulas.
use Rattle.std.specs.Prelude.{◌≡◌, ℕ, zero, suc, ◌<◌, Bool, cond, List, [], ◌∷◌, length}
use Rattle.values.specs.Sides.{rail0, rail1}
use Rattle.values.specs.Single.{is0, is1, from_rails}
use Rattle.values.specs.declared.single.Value.{Value}
use Rattle.gates.specs.declared.gate.Gate.{Gate}
use Rattle.gates.specs.Gates.{is_input}
use Rattle.clauses.specs.Clauses.{Valuation, across}
use Rattle.formulas.specs.Formulas.{rail_var}
use Rattle.solutions.specs.Solutions.{gate_at}

-- In frame i a rail is up in the valuation exactly where it is up in the value that f gives the wire.
abbrev pub Shows : Valuation → ℕ → ℕ → (ℕ → Value) → Type 0
Shows v n i f = (w : ℕ) → w < n → (v (rail_var n i (rail0 w)) ≡ is0 (f w)) × (v (rail_var n i (rail1 w)) ≡ is1 (f w))

-- the same of the frame before frame i, if there is one
abbrev pub ShowsBefore : Valuation → ℕ → ℕ → (ℕ → Value) → Type 0
ShowsBefore v n zero before = Unit {0}
ShowsBefore v n (suc i) before = Shows v n i before

-- the values whose rails are up as the valuation has them in frame i
abbrev pub seen : Valuation → ℕ → ℕ → ℕ → Value
seen v n i w = from_rails (v (rail_var n i (rail0 w))) (v (rail_var n i (rail1 w)))

-- The run that a valuation of the base formula shows: in each of the d frames, the rail 1 of each input in rising wire order.
abbrev pub row_of : List Gate → Valuation → ℕ → List Bool
row_of gs v i =
    let n = length gs in
    across n (λ w. cond (is_input (gate_at gs w)) (v (rail_var n i (rail1 w)) ∷ []) [])

abbrev pub run_of : List Gate → Valuation → ℕ → List (List Bool)
run_of gs v d = across d (λ i. row_of gs v i ∷ [])
