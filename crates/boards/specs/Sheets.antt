-- What a board says, what adding a record makes of it, and when it can be closed.
use Rattle.std.specs.Prelude.{ℕ, cond, ◌&&◌, List, [], ◌∷◌, ◌++◌, length, Some, None, Ok, Err, vec_items, Option, Result, nat_le, nat_lt}
use Rattle.refusals.specs.declared.Refusal.{Refusal}
use Rattle.refusals.specs.declared.Refusal.TheVariants as refusal
use Rattle.gates.specs.declared.gate.Gate.{Gate}
use Rattle.boards.specs.declared.board.Board.{Board}
use Rattle.boards.specs.declared.drawing.Drawing.{Drawing}
use Rattle.gates.specs.Gates.{named}
use Rattle.gates.specs.Records.{gate_in}

-- the gates of the wires, in wire order, the property wire and the depth
pub record Sheet : Type 0 where
  pub gates : List Gate
  pub property : ℕ
  pub depth : ℕ

abbrev pub drawn : Drawing → List Gate
drawn d = vec_items d.gates

abbrev pub sheet_of : List Gate → ℕ → ℕ → Sheet
sheet_of gs p d = record { gates = gs; property = p; depth = d }

abbrev pub sheet : Board → Sheet
sheet b = sheet_of (vec_items b.gates) b.property b.depth

-- Why a record is not added: it is no record, or the board is full.
abbrev pub add_gate : {X : Type 0} → List Gate → Option Gate → (Gate → X) → (Refusal → X) → X
add_gate gs None ok err = err refusal.Record
add_gate gs (Some g) ok err = cond (nat_lt (length gs) 256) (ok g) (err refusal.Full)

abbrev pub adding : List Gate → List ℕ → Result (Unit {0}) Refusal
adding gs bs = add_gate gs (gate_in bs) (λ g. Ok tt) Err

abbrev pub gates_after : List Gate → List ℕ → List Gate
gates_after gs bs = add_gate gs (gate_in bs) (λ g. gs ++ g ∷ []) (λ e. gs)

-- Why a board is not closed: the depth is not 1 to 8, or a wire is named that it does not have.
abbrev pub closing : Sheet → Option Refusal
closing s =
    let n = length s.gates in
    cond (nat_le 1 s.depth && nat_le s.depth 8)
    (cond (nat_lt s.property n && named n s.gates) None (Some refusal.Wire))
    (Some refusal.Depth)
