-- A row is filled from its start.
use Rattle.std.proofs.Common.{◌≡◌, ℕ, ◌+◌, List, [], ◌∷◌, ◌++◌, length, get_or, drop, set, sym, ap, ◌∙◌, arith}
use Rattle.std.proofs.lemmas.List.{set_at, drop_more, length_push, append_assoc}
use Rattle.prooftext.specs.Lists.{Held}

pub held_turn : {X : Type 0} (before row xs : List X) (x : X) (n : ℕ) → length xs ≡ n → Held before row xs → Held before (set row n x) (xs ++ x ∷ [])
held_turn {X} before row xs x n e held h = ap (λ r. set r n x) whole ∙ set_at xs (get_or before (length xs) x) (drop (length xs + 1) before) x n e ∙ sym after
  where
    whole : row ≡ xs ++ get_or before (length xs) x ∷ drop (length xs + 1) before
    whole = held (omega (arith, h, length_push xs x)) ∙ ap (λ ys. xs ++ ys) (drop_more before (length xs) x (omega (arith, h, length_push xs x)))

    after : (xs ++ x ∷ []) ++ drop (length (xs ++ x ∷ [])) before ≡ xs ++ x ∷ drop (length xs + 1) before
    after = ap (λ m. (xs ++ x ∷ []) ++ drop m before) (length_push xs x) ∙ append_assoc xs (x ∷ []) (drop (length xs + 1) before)
