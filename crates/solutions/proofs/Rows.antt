-- The test of two rows for equality, and the flag that a loop over a round keeps.
use Rattle.std.proofs.Common.{◌≡◌, ℕ, zero, suc, ◌+◌, ◌<◌, Bool, true, false, not, ◌&&◌, ◌||◌, List, [], ◌∷◌, length, get_or, set, Decides, sym, refl, ap, ◌∙◌, ap₂, arith}
use mathlib.Core.Bool.{false≢true, and_assoc}
use Rattle.std.proofs.lemmas.Bool.{and_parts, and_from}
use Rattle.values.specs.Kinds.{Kind, Lawful}
use Rattle.gates.specs.declared.gate.Gate.{Gate}
use Rattle.solutions.specs.Rounds.{round, same_row}
use Rattle.solutions.proofs.OneRound.{want, round_more, length_round, round_unreached}

module _ {A : Type 0} (K : Kind A) (L : Lawful K) where
  pub same_row_self : (xs : List A) → same_row K xs xs ≡ true
  unfolding same_row
  same_row_self [] = refl
  same_row_self (x ∷ xs) = and_from (K.same x x) (same_row K xs xs) ((L.compared x x).1 refl) (same_row_self xs)

  same_row_true : (xs ys : List A) → same_row K xs ys ≡ true → xs ≡ ys
  unfolding same_row
  same_row_true [] [] h = refl
  same_row_true [] (y ∷ ys) h = absurd (false≢true h)
  same_row_true (x ∷ xs) [] h = absurd (false≢true h)
  same_row_true (x ∷ xs) (y ∷ ys) h =
      let p = and_parts (K.same x y) (same_row K xs ys) h in
      ap₂ ◌∷◌ ((L.compared x y).0 p.0) (same_row_true xs ys p.1)

  pub same_row_decides : (xs ys : List A) → Decides (same_row K xs ys) (xs ≡ ys)
  same_row_decides xs ys = (same_row_true xs ys, λ e. ap (same_row K xs) (sym e) ∙ same_row_self xs)

  -- a write over a value that is still the same
  pub same_row_set : (xs ys : List A) (w : ℕ) (v d : A) → w < length xs → w < length ys → K.same (get_or xs w d) (get_or ys w d) ≡ true →
      same_row K xs (set ys w v) ≡ (same_row K xs ys && K.same (get_or xs w d) v)
  unfolding same_row
  same_row_set [] ys w v d l m h = absurd (omega arith)
  same_row_set (x ∷ xs) [] w v d l m h = absurd (omega arith)
  same_row_set (x ∷ xs) (y ∷ ys) zero v d l m h = go (K.same x v) (K.same x y) (same_row K xs ys) h
    where
      go : (a b c : Bool) → b ≡ true → (a && c) ≡ ((b && c) && a)
      go true true true e = refl
      go true true false e = refl
      go false true true e = refl
      go false true false e = refl
      go a false c e = absurd (false≢true e)
  same_row_set (x ∷ xs) (y ∷ ys) (suc w) v d l m h =
      ap (λ b. K.same x y && b) (same_row_set xs ys w v d (omega arith) (omega arith) h) ∙ sym (and_assoc (K.same x y) (same_row K xs ys) (K.same (get_or xs w d) v))

  module _ (gs : List Gate) (given : ℕ → A) (xs : List A) where
    -- one more wire of a round
    pub same_row_more : (w : ℕ) (d : A) → w < length xs →
        same_row K xs (round K gs given (w + 1) xs) ≡
        (same_row K xs (round K gs given w xs) && K.same (get_or (round K gs given w xs) w d) (want K gs given (round K gs given w xs) w))
    same_row_more w d l =
        let ys = round K gs given w xs in
        let e : get_or ys w d ≡ get_or xs w d = round_unreached K gs given w w xs d (omega arith) in
        ap (same_row K xs) (round_more K gs given w xs)
        ∙ same_row_set xs ys w (want K gs given ys w) d l (omega (arith, length_round K gs given w xs)) ((L.compared (get_or xs w d) (get_or ys w d)).1 (sym e))
        ∙ ap (λ x. same_row K xs ys && K.same x (want K gs given ys w)) (sym e)

    -- The flag says whether a wire has changed: at first none has, and each wire adds whether its new value differs from its old.
    pub changed_none : same_row K xs (round K gs given 0 xs) ≡ not false
    unfolding round
    changed_none = same_row_self xs

    pub changed_more : (w : ℕ) (d : A) (changed : Bool) → w < length xs → same_row K xs (round K gs given w xs) ≡ not changed →
        same_row K xs (round K gs given (w + 1) xs) ≡
        not (changed || not (K.same (get_or (round K gs given w xs) w d) (want K gs given (round K gs given w xs) w)))
    changed_more w d changed l h =
        let new = K.same (get_or (round K gs given w xs) w d) (want K gs given (round K gs given w xs) w) in
        same_row_more w d l ∙ (ap (λ b. b && new) h ∙ go changed new)
      where
        go : (a b : Bool) → (not a && b) ≡ not (a || not b)
        go true b = refl
        go false true = refl
        go false false = refl
