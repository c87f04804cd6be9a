-- How a frame is worked out: wires in rising order, in place, from all undefined, until a round changes none.
use Rattle.std.specs.Prelude.{ℕ, zero, suc, ◌+◌, ◌*◌, Bool, true, false, ◌&&◌, List, [], ◌∷◌, length, replicate, slice_set}
use Rattle.values.specs.Kinds.{Kind}
use Rattle.gates.specs.declared.gate.Gate.{Gate}
use Rattle.solutions.specs.Solutions.{gate_at, reads, wanted}

-- a round up to wire w, in place
unfoldable pub round : {A : Type 0} → Kind A → List Gate → (ℕ → A) → ℕ → List A → List A
round K gs given zero xs = xs
round K gs given (suc w) xs =
    let ys = round K gs given w xs in
    slice_set ys w (wanted K (gate_at gs w) (given w) (reads K ys))

-- the row after k rounds
unfoldable pub rounds : {A : Type 0} → Kind A → List Gate → (ℕ → A) → ℕ → List A
rounds K gs given zero = replicate (length gs) K.undefined
rounds K gs given (suc k) = round K gs given (length gs) (rounds K gs given k)

unfoldable pub same_row : {A : Type 0} → Kind A → List A → List A → Bool
same_row K [] [] = true
same_row K [] (y ∷ ys) = false
same_row K (x ∷ xs) [] = false
same_row K (x ∷ xs) (y ∷ ys) = K.same x y && same_row K xs ys

-- how many rounds from the row xs up to the first that changes nothing, that one counted, of at most so many
unfoldable pub rounds_from : {A : Type 0} → Kind A → List Gate → (ℕ → A) → ℕ → List A → ℕ
rounds_from K gs given zero xs = 0
rounds_from K gs given (suc limit) xs =
    let ys = round K gs given (length gs) xs in
    let more = rounds_from K gs given limit ys in
    suc (elim (same_row K xs ys) [ true ↦ 0 | false ↦ more ])

-- No frame takes more than n × H + 1 rounds.
abbrev pub most_rounds : {A : Type 0} → Kind A → List Gate → ℕ
most_rounds K gs = length gs * K.height + 1

abbrev pub frame_rounds : {A : Type 0} → Kind A → List Gate → (ℕ → A) → ℕ
frame_rounds K gs given = rounds_from K gs given (most_rounds K gs) (rounds K gs given 0)

-- what the rounds leave
abbrev pub frame_row : {A : Type 0} → Kind A → List Gate → (ℕ → A) → List A
frame_row K gs given = rounds K gs given (frame_rounds K gs given)
