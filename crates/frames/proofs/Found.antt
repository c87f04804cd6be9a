-- What the frame call answers and leaves where the buffers suffice.
use Rattle.std.proofs.Common.{◌≡◌, ℕ, ◌≤◌, true, List, ◌++◌, length, Option, sym, ap, ◌∙◌, arith}
use Rattle.std.proofs.lemmas.List.{get_or_append_left}
use Rattle.std.proofs.lemmas.Bool.{and_from, le-leb}
use Rattle.values.specs.Kinds.{Kind, Lawful}
use Rattle.gates.specs.declared.gate.Gate.{Gate}
use Rattle.solutions.specs.Solutions.{reads, Least}
use Rattle.solutions.specs.Rounds.{most_rounds, frame_rounds, frame_row}
use Rattle.solutions.specs.Runs.{input_count}
use Rattle.solutions.specs.Claims.{Named}
use Rattle.solutions.proofs.Rounds.{rounds_end}
use Rattle.solutions.proofs.Leasts.{least_same}
use Rattle.frames.specs.Frames.{long_before, enough}

pub suffice : {A : Type 0} (gs : List Gate) (inputs : List A) (before : Option (List A)) (row : List A) → input_count gs ≤ length inputs → long_before (length gs) before ≡ true
    → length gs ≤ length row → enough gs inputs before row ≡ true
suffice gs inputs before row h i j = and_from _ _ (le-leb (input_count gs) (length inputs) h) (and_from _ _ i (le-leb (length gs) (length row) j))

module _ {A : Type 0} (K : Kind A) (L : Lawful K) (gs : List Gate) (own : Named gs) (given : ℕ → A) where
  pub found_bound : (k : ℕ) → k ≡ frame_rounds K gs given → k ≤ most_rounds K gs
  found_bound k e = omega (arith, e, (rounds_end K L gs own given).bound)

  pub found_least : (done rest : List A) → done ≡ frame_row K gs given → Least K gs given (reads K (done ++ rest))
  found_least done rest is =
      let end = rounds_end K L gs own given in
      let size = ap length is ∙ end.size in
      least_same K gs own given (reads K (frame_row K gs given)) (reads K (done ++ rest))
      (λ w h. ap (λ xs. reads K xs w) (sym is) ∙ sym (get_or_append_left done rest K.undefined w (omega arith))) end.least
