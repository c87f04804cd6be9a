-- What the code finds a frame from, as the definitions take it.
use Rattle.std.specs.Prelude.{ℕ, List, Option}
use Rattle.std.specs.Option.{option_map}
use Rattle.values.specs.Kinds.{Kind}
use Rattle.gates.specs.declared.gate.Gate.{Gate}
use Rattle.boards.specs.Sheets.{sheet}
use Rattle.frames.specs.declared.frame.Given.{Given}
use Rattle.frames.specs.Frames.{frame_given}

abbrev pub gates_of : {A : Type 0} → Given A → List Gate
gates_of g = (sheet g.board.now).gates

abbrev pub before_of : {A : Type 0} → Given A → Option (List A)
before_of g = option_map (λ x. x.now) g.before

abbrev pub given_of : {A : Type 0} → Kind A → Given A → ℕ → A
given_of K g = frame_given K (gates_of g) g.inputs.now (before_of g)
