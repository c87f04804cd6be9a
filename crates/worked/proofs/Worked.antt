-- The worked boards, by computation.
use Rattle.std.proofs.Common.{◌≡◌, ℕ, ◌<◌, Bool, true, not, ◌&&◌, ◌≢◌, List, [], ◌∷◌, length, refl, inl, inr, arith}
use Rattle.std.proofs.ByRecursion.{All-get_or, Decides-by_and}
use Rattle.std.proofs.lemmas.Bool.Decides.{not_from_Decides, Decides-not}
use Rattle.values.specs.Single.{single, alike}
use Rattle.values.specs.declared.single.Value.{Value}
use Rattle.values.specs.declared.single.Value.TheVariants as value
use Rattle.values.specs.Singles.{single_lawful}
use Rattle.gates.specs.declared.gate.Gate.{Gate}
use Rattle.solutions.specs.Rounds.{round, rounds, same_row, rounds_from, frame_row}
use Rattle.solutions.specs.Runs.{Frame}
use Rattle.solutions.specs.Claims.{Named}
use Rattle.solutions.proofs.Frames.{given_row, next_frame, not_bad_at}
use Rattle.worked.specs.Worked.{self_and, self_not, or_not_loop, constant, settled_loop, ring, toggle, no_inputs, one_one, one_zero, row, BoardsWorked}

first_frame : (gs : List Gate) → Named gs → (rows : List (List Bool)) (xs : List Value) → frame_row single gs (given_row gs rows 0 (λ w. value.Zero)) ≡ xs → Frame gs rows 1 (row xs)
first_frame gs named rows xs e = next_frame gs named rows 0 (λ w. value.Zero) xs (λ w l. refl) e

abbrev all_defined : List Value → Bool
all_defined [] = true
all_defined (x ∷ xs) = not (alike x value.Undefined) && all_defined xs

defined : (xs : List Value) → all_defined xs ≡ true → (w : ℕ) → w < length xs → row xs w ≢ value.Undefined
defined xs e w l =
    All-get_or (λ x. x ≢ value.Undefined) xs w value.Undefined l
    ((Decides-by_and (λ x. not (alike x value.Undefined)) (λ x. x ≢ value.Undefined) all_defined
    (λ x. Decides-not (alike x value.Undefined) (single_lawful.compared x value.Undefined)) refl (λ _ _. refl) xs).0 e)

zero_is_not_one : value.Zero ≢ value.One
zero_is_not_one = not_from_Decides (alike value.Zero value.One) (single_lawful.compared value.Zero value.One) refl

abbrev ring_one_one : List Value
ring_one_one = value.One ∷ value.One ∷ value.Zero ∷ value.Undefined ∷ value.Undefined ∷ value.Undefined ∷ value.Zero ∷ value.Undefined ∷ value.One ∷ []

abbrev ring_one_zero : List Value
ring_one_zero = value.One ∷ value.Zero ∷ value.One ∷ value.One ∷ value.One ∷ value.Zero ∷ value.Zero ∷ value.One ∷ value.One ∷ []

ring_one_one_is : Frame ring one_one 1 (row ring_one_one)
unfolding round rounds same_row rounds_from
ring_one_one_is = first_frame ring refl one_one ring_one_one refl

ring_one_zero_is : Frame ring one_zero 1 (row ring_one_zero)
unfolding round rounds same_row rounds_from
ring_one_zero_is = first_frame ring refl one_zero ring_one_zero refl

toggle_first : Frame toggle no_inputs 1 (row (value.Zero ∷ value.One ∷ []))
unfolding round rounds same_row rounds_from
toggle_first = first_frame toggle refl no_inputs (value.Zero ∷ value.One ∷ []) refl

toggle_second : Frame toggle no_inputs 2 (row (value.One ∷ value.Zero ∷ []))
unfolding round rounds same_row rounds_from
toggle_second = next_frame toggle refl no_inputs 1 (row (value.Zero ∷ value.One ∷ [])) (value.One ∷ value.Zero ∷ []) toggle_first refl

pub boards_worked : BoardsWorked
unfolding round rounds same_row rounds_from
boards_worked = record {
  self_and_frame = first_frame self_and refl no_inputs (value.Undefined ∷ []) refl;
  self_not_frame = first_frame self_not refl no_inputs (value.Undefined ∷ []) refl;
  or_not_loop_frame = first_frame or_not_loop refl no_inputs (value.Undefined ∷ value.Undefined ∷ []) refl;
  constant_frame = first_frame constant refl no_inputs (value.One ∷ []) refl;
  settled_loop_frame = first_frame settled_loop refl no_inputs (value.Zero ∷ value.Zero ∷ value.One ∷ []) refl;
  ring_one_one_frame = ring_one_one_is;
  ring_one_zero_frame = ring_one_zero_is;
  toggle_first_frame = toggle_first;
  toggle_second_frame = toggle_second;
  ring_one_one_bad = (omega arith, omega arith, (row ring_one_one, ring_one_one_is, inl (3, omega arith, refl)));
  ring_one_zero_good = not_bad_at ring 8 (omega arith) refl one_zero 1 (row ring_one_zero) ring_one_zero_is
      (defined ring_one_zero refl, refl);
  toggle_first_good = not_bad_at toggle 1 (omega arith) refl no_inputs 1 (row (value.Zero ∷ value.One ∷ [])) toggle_first
      (defined (value.Zero ∷ value.One ∷ []) refl, refl);
  toggle_second_bad = (omega arith, omega arith, (row (value.One ∷ value.Zero ∷ []), toggle_second, inr zero_is_not_one));
  self_and_rounds = refl;
  constant_rounds = refl;
  backward_copies_rounds = refl;
  constant_base = refl;
  constant_base_variables = refl;
  settled_loop_base = (refl, refl);
  settled_loop_step = (refl, refl);
  ring_base = (refl, refl);
  ring_step = (refl, refl);
  toggle_base = (refl, refl);
  toggle_step = (refl, refl);
}
