-- A gate file holds the records in wire order, then kind 15 with the property wire and the depth, and then ends.
use Rattle.std.specs.Prelude.{◌≡◌, ℕ, cond, ◌≢◌, ◌⊎◌, List, [], ◌∷◌, ◌++◌, length, Some, None, Ok, Err, Option, Result, nat_le}
use Rattle.std.specs.List.{flat_map}
use Rattle.refusals.specs.declared.Refusal.{Refusal}
use Rattle.refusals.specs.declared.Refusal.TheVariants as refusal
use Rattle.gates.specs.declared.gate.Gate.{Gate}
use Rattle.boards.specs.declared.board.Board.{Board}
use Rattle.boards.specs.declared.close.Unclosed.{Unclosed}
use Rattle.gates.specs.Records.{record_of}
use Rattle.boards.specs.Sheets.{Sheet, sheet, drawn, closing}

abbrev pub ending : ℕ → ℕ → List ℕ
ending p d = 15 ∷ p ∷ d ∷ []

abbrev pub file_of : Sheet → List ℕ
file_of s = flat_map record_of s.gates ++ ending s.property s.depth

-- Why a file of good form is not taken: too many records, and then whatever keeps the board from being closed.
abbrev pub file_closing : Sheet → Option Refusal
file_closing s = cond (nat_le (length s.gates) 256) (closing s) (Some refusal.Full)

-- Why bytes are not read as a board: they are the file of no sheet, or of one that is not taken.
abbrev pub Misread : List ℕ → Refusal → Type 0
Misread bytes e =
    (((s : Sheet) → bytes ≢ file_of s) × (e ≡ refusal.Record))
    ⊎ ((s : Sheet) × (bytes ≡ file_of s) × (file_closing s ≡ Some e))

-- Why a file is not read into a drawing that has the wires gs: it has wires already, or the bytes are not read as a board.
abbrev pub Unread : List Gate → List ℕ → Refusal → Type 0
Unread gs bytes e = ((gs ≢ []) × (e ≡ refusal.Stage)) ⊎ ((gs ≡ []) × Misread bytes e)

-- What reading a file into a drawing answers: a board of which it is the file, or the drawing as it was and the reason.
abbrev pub Read : List Gate → List ℕ → Result Board Unclosed → Type 0
Read gs bytes (Ok b) = (gs ≡ []) × (bytes ≡ file_of (sheet b))
Read gs bytes (Err u) = (drawn u.drawing ≡ gs) × Unread gs bytes u.refusal

-- The file of a board that can be closed is read as that board.
abbrev pub Reread : List Gate → List ℕ → Result Board Unclosed → Type 0
Reread gs bytes (Ok b) = (s : Sheet) → bytes ≡ file_of s → sheet b ≡ s
Reread gs bytes (Err u) = (s : Sheet) → gs ≡ [] → bytes ≡ file_of s → file_closing s ≢ None
