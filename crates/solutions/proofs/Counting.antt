-- What a loop over the rounds knows: it has the row after k rounds, and each of them changed something.
use Rattle.std.proofs.Common.{◌≡◌, ℕ, suc, ◌+◌, ◌<◌, true, false, List, length, replicate, sym, ap, ◌∙◌, subst, arith}
use Rattle.std.proofs.lemmas.Bool.Decides.{not_from_Decides}
use Rattle.values.specs.Kinds.{Kind, Lawful}
use Rattle.gates.specs.declared.gate.Gate.{Gate}
use Rattle.solutions.specs.Solutions.{reads, Least}
use Rattle.solutions.specs.Rounds.{round, rounds, same_row, most_rounds, frame_rounds, frame_row}
use Rattle.solutions.specs.Claims.{Named}
use Rattle.solutions.proofs.OneRound.{rounds_none, rounds_suc, rounds_more}
use Rattle.solutions.proofs.Rows.{same_row_decides}
use Rattle.solutions.proofs.Rounds.{Changing, changing_none, changing_more, changing_bound, rounds_first, still_least}

pub record Counting {A : Type 0} (K : Kind A) (gs : List Gate) (given : ℕ → A) (k : ℕ) (xs : List A) : Type 0 where
  pub row : xs ≡ rounds K gs given k
  pub changing : Changing K gs given k

-- What the loop is left with: the number of rounds, and the least solution.
pub record Counted {A : Type 0} (K : Kind A) (gs : List Gate) (given : ℕ → A) (k : ℕ) (xs : List A) : Type 0 where
  pub count : k ≡ frame_rounds K gs given
  pub row : xs ≡ frame_row K gs given
  pub least : Least K gs given (reads K xs)

module _ {A : Type 0} (K : Kind A) (L : Lawful K) (gs : List Gate) (named : Named gs) (given : ℕ → A) where
  pub counting_none : Counting K gs given 0 (replicate (length gs) K.undefined)
  counting_none = record { row = sym (rounds_none K gs given); changing = changing_none K L gs named given }

  module _ (k : ℕ) (xs : List A) (c : Counting K gs given k xs) where
    -- so most_rounds K gs - k falls
    pub counting_bound : k < most_rounds K gs
    counting_bound = changing_bound K L gs named given k c.changing

    next : round K gs given (length gs) xs ≡ rounds K gs given (suc k)
    next = ap (round K gs given (length gs)) c.row ∙ sym (rounds_suc K gs given k)

    -- a round that changes something
    pub counting_more : same_row K xs (round K gs given (length gs) xs) ≡ false → Counting K gs given (k + 1) (round K gs given (length gs) xs)
    counting_more e = record {
      row = ap (round K gs given (length gs)) c.row ∙ sym (rounds_more K gs given k);
      changing = changing_more K L gs named given k c.changing
          (λ s. not_from_Decides (same_row K xs (round K gs given (length gs) xs)) (same_row_decides K L xs (round K gs given (length gs) xs)) e (c.row ∙ (sym s ∙ sym next)));
    }

    -- the first round that changes nothing
    pub counting_last : same_row K xs (round K gs given (length gs) xs) ≡ true → Counted K gs given (k + 1) (round K gs given (length gs) xs)
    counting_last e =
        let same : xs ≡ round K gs given (length gs) xs = (same_row_decides K L xs (round K gs given (length gs) xs)).0 e in
        let still : rounds K gs given (suc k) ≡ rounds K gs given k = sym next ∙ (sym same ∙ c.row) in
        let count = rounds_first K L gs named given k c.changing still in
        record {
          count = omega arith;
          row = next ∙ ap (rounds K gs given) (sym count);
          least = subst (λ ys. Least K gs given (reads K ys)) (sym c.row ∙ same) (still_least K L gs named given k still);
        }
