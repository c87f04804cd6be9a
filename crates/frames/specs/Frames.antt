-- What the frame call answers, and what it leaves in the row.
use Rattle.std.specs.Prelude.{ℕ, Bool, true, cond, ◌&&◌, List, ◌++◌, length, drop, Some, None, Ok, Err, Option, Result, nat_le}
use Rattle.refusals.specs.declared.Refusal.{Refusal}
use Rattle.refusals.specs.declared.Refusal.TheVariants.{Buffer}
use Rattle.values.specs.Kinds.{Kind}
use Rattle.gates.specs.declared.gate.Gate.{Gate}
use Rattle.solutions.specs.Solutions.{given, frame_before}
use Rattle.solutions.specs.Rounds.{frame_rounds, frame_row}
use Rattle.solutions.specs.Runs.{input_count}

-- what the inputs and the frame before, if there is one, give each wire
abbrev pub frame_given : {A : Type 0} → Kind A → List Gate → List A → Option (List A) → ℕ → A
frame_given K gs inputs before = given K gs inputs (frame_before K before)

abbrev pub long_before : {A : Type 0} → ℕ → Option (List A) → Bool
long_before n None = true
long_before n (Some xs) = nat_le n (length xs)

-- A value for each input, and n values in the frame before and in the row to fill.
abbrev pub enough : {A : Type 0} → List Gate → List A → Option (List A) → List A → Bool
enough gs inputs before row = nat_le (input_count gs) (length inputs) && (long_before (length gs) before && nat_le (length gs) (length row))

abbrev pub frame_answer : {A : Type 0} → Kind A → List Gate → List A → Option (List A) → List A → Result ℕ Refusal
frame_answer K gs inputs before row =
    cond (enough gs inputs before row) (Ok (frame_rounds K gs (frame_given K gs inputs before))) (Err Buffer)

abbrev pub row_after : {A : Type 0} → Kind A → List Gate → List A → Option (List A) → List A → List A
row_after K gs inputs before row =
    cond (enough gs inputs before row) (frame_row K gs (frame_given K gs inputs before) ++ drop (length gs) row) row
