-- One round of a frame, wire by wire.
use Rattle.std.proofs.Common.{◌≡◌, ℕ, ◌+◌, ◌<◌, ◌≤◌, Bool, not, cond, ◌||◌, List, length, get_or, set, drop, sym, ap, ◌∙◌, add-zero, arith}
use Rattle.std.proofs.lemmas.Nat.{mul-le}
use Rattle.std.proofs.lemmas.List.{drop-drop, get_or-drop}
use Rattle.values.specs.Kinds.{Kind, Lawful}
use Rattle.gates.specs.declared.gate.Gate.{Gate}
use Rattle.gates.specs.Gates.{is_input, rank}
use Rattle.gates.proofs.Counting.{count_turn}
use Rattle.solutions.specs.Solutions.{gate_at, reads, wanted, supplied, given as given_by}
use Rattle.solutions.specs.Rounds.{round, same_row, most_rounds}
use Rattle.solutions.proofs.OneRound.{want, round_more}
use Rattle.solutions.proofs.Rows.{changed_more}

-- The inputs are taken one after the other: what is left of them begins with the input of the next wire that is one.
module _ {A : Type 0} (K : Kind A) (gs : List Gate) (inputs : List A) (before : ℕ → A) (w : ℕ) (left : List A) (is : left ≡ drop (rank is_input gs w) inputs)
    (gate : Gate) (here : gate ≡ gate_at gs w) where
  pub turn_given : (x : A) → x ≡ supplied K gate (reads K left 0) before → x ≡ given_by K gs inputs before w
  turn_given x e =
      let r = rank is_input gs w in
      let next : reads K left 0 ≡ reads K inputs r =
      ap (λ ys. reads K ys 0) is ∙ get_or-drop r inputs 0 K.undefined ∙ ap (reads K inputs) (add-zero r) in
      e ∙ ap (λ y. supplied K gate y before) next ∙ ap (λ y. supplied K y (reads K inputs r) before) here

  pub turn_left : (after : List A) → w < length gs → after ≡ drop (cond (is_input gate) 1 0) left → after ≡ drop (rank is_input gs (w + 1)) inputs
  turn_left after h e =
      let step = λ (y : Gate). cond {A = ℕ} (is_input y) 1 0 in
      e ∙ ap (drop (step gate)) is ∙ drop-drop (step gate) (rank is_input gs w) inputs
      ∙ ap (λ y. drop (rank is_input gs w + step y) inputs) here ∙ ap (λ n. drop n inputs) (sym (count_turn is_input gs w h))

module _ {A : Type 0} (K : Kind A) (L : Lawful K) (gs : List Gate) (given : ℕ → A) (xs : List A) (w : ℕ) (row : List A)
    (is : row ≡ round K gs given w xs) where
  -- the value that a wire is given in its turn
  pub turn_value : (x value : A) → x ≡ given w → value ≡ wanted K (gate_at gs w) x (reads K row) → value ≡ want K gs given (round K gs given w xs) w
  turn_value x value e h =
      h ∙ ap (λ y. wanted K (gate_at gs w) y (reads K row)) e ∙ ap (λ r. wanted K (gate_at gs w) (given w) (reads K r)) is

  pub turn_row : (value : A) → value ≡ want K gs given (round K gs given w xs) w → set row w value ≡ round K gs given (w + 1) xs
  turn_row value e = ap (λ r. set r w value) is ∙ ap (set (round K gs given w xs) w) e ∙ sym (round_more K gs given w xs)

  pub turn_changed : (value old : A) (changed differs : Bool) → w < length xs → value ≡ want K gs given (round K gs given w xs) w → old ≡ get_or row w old
      → differs ≡ not (K.same old value) → same_row K xs (round K gs given w xs) ≡ not changed → same_row K xs (round K gs given (w + 1) xs) ≡ not (changed || differs)
  turn_changed value old changed differs h e f s c =
      let new : differs ≡ not (K.same (get_or (round K gs given w xs) w old) (want K gs given (round K gs given w xs) w)) =
      s ∙ ap (λ y. not (K.same y value)) (f ∙ ap (λ r. get_or r w old) is) ∙ ap (λ v. not (K.same (get_or (round K gs given w xs) w old) v)) e in
      changed_more K L gs given xs w old changed h c ∙ ap (λ b. not (changed || b)) (sym new)

-- The rounds of a board are few.
pub few_rounds : {A : Type 0} (K : Kind A) → Lawful K → (gs : List Gate) → length gs ≤ 256 → most_rounds K gs ≤ 32769
few_rounds K L gs h = omega (arith, mul-le (length gs) K.height 256 128 h L.height_bound)
