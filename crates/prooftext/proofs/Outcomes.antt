-- What a call of the reader answers and leaves is what belongs to what stands next.
use Rattle.std.proofs.Common.{◌≡◌, ℕ, ◌+◌, ◌-◌, ◌<◌, ◌≤◌, Bool, true, false, cond, List, [], ◌++◌, length, drop, replicate, pos, Ok, Err, Result, sym, refl, ap, ◌∙◌, subst, arith}
use Rattle.std.proofs.lemmas.List.{drop_all, drop-replicate, length-replicate, length-drop, length-append}
use Rattle.std.proofs.lemmas.Bool.Decides.{nat_tests}
use Rattle.refusals.specs.declared.Refusal.{Refusal}
use Rattle.refusals.specs.declared.Refusal.TheVariants as refusal
use Rattle.proofgrammar.specs.Grammar.{Entry, line_text, Next, end, entry, other, Stands}
use Rattle.proofgrammar.proofs.Lines.{one_next}
use Rattle.prooftext.specs.Lists.{Held}
use Rattle.prooftext.specs.declared.item.Item.{Item}
use Rattle.prooftext.specs.declared.item.Item.TheVariants.{End}
use Rattle.prooftext.specs.Rows.{Rows, rows, filled}
use Rattle.prooftext.specs.Items.{answer_of, literals_of, numbers_of, NoLine, HasLine}
use Rattle.prooftext.specs.Readings.{State, state, filled_with, fits_in, outcome, Read, Reread}

room : (i : Entry) (l n : ℕ) → fits_in i l n ≡ true → (length (literals_of i) ≤ l) × (length (numbers_of i) ≤ n)
room i l n e = grind (arith, nat_tests)

-- words that were read into a row of zeros
filled_held : {X : Type 0} (nil : X) (n : ℕ) (zeros after xs : List X) → zeros ≡ replicate n nil → Held zeros after xs → length xs ≤ n → after ≡ filled nil n xs
filled_held nil n zeros after xs e held h =
    let size = ap length e ∙ length-replicate n nil in
    held (omega arith) ∙ ap (λ ys. xs ++ drop (length xs) ys) e ∙ ap (λ ys. xs ++ ys) (drop-replicate (length xs) n nil)

-- The rows hold zeros only.
abbrev pub Zeros : Rows → Rows → Type 0
Zeros before r = (r.literals ≡ replicate (length before.literals) (pos 0)) × (r.numbers ≡ replicate (length before.numbers) 0)

zeros_are : (before r : Rows) → Zeros before r → r ≡ filled_with [] [] before
zeros_are before r z =
    let left : length before.literals - 0 ≡ length before.literals = omega arith in
    let right : length before.numbers - 0 ≡ length before.numbers = omega arith in
    ap (λ xs. rows xs r.numbers) (z.0 ∙ ap (λ k. replicate k (pos 0)) (sym left))
    ∙ ap (rows (filled (pos 0) (length before.literals) [])) (z.1 ∙ ap (λ k. replicate k 0) (sym right))

same_reading : (item a : Item) (next p : ℕ) (after r : Rows) → item ≡ a → next ≡ p → after ≡ r
    → ◌≡◌ {A = Result Item Refusal × State} (Ok item, state next after) (Ok a, state p r)
same_reading item a next p after r e f g = cc

module _ (text : List ℕ) (before : State) where
  abbrev Both : Result Item Refusal → State → Type 0
  Both answer after = Read text before answer after × Reread text before answer after

  pinned : (n : Next) (answer : Result Item Refusal) (after : State) → Stands (drop before.place text) n
      → ◌≡◌ {A = Result Item Refusal × State} (answer, after) (outcome n before) → Both answer after
  pinned n answer after h e = ((n, h, e), λ m k. e ∙ ap (λ x. outcome x before) (one_next (drop before.place text) n m h k))

  blank : (answer : Result Item Refusal) (r : Rows) → Zeros before.rows r
      → ◌≡◌ {A = Result Item Refusal × State} (answer, state before.place r) (answer, state before.place (filled_with [] [] before.rows))
  blank answer r z = ap (λ x. (answer, state before.place x)) (zeros_are before.rows r z)

  pub read_end : (r : Rows) → Zeros before.rows r → length text ≤ before.place → Both (Ok End) (state before.place r)
  read_end r z h = pinned end (Ok End) (state before.place r) (drop_all before.place text h) (blank (Ok End) r z)

  -- A line was looked for, with rows of zeros.
  module _ (zeros after : Rows) (clear : Zeros before.rows zeros) (long : length after.literals ≡ length before.rows.literals)
      (size : length after.numbers ≡ length before.rows.numbers) where
    again : (r : Rows) → Zeros after r → Zeros before.rows r
    again r z = (z.0 ∙ ap (λ k. replicate k (pos 0)) long, z.1 ∙ ap (λ k. replicate k 0) size)

    pub read_other : (r : Rows) → Zeros after r → before.place < length text → NoLine (drop before.place text)
        → Both (Err refusal.Text) (state before.place r)
    read_other r z h none =
        pinned other (Err refusal.Text) (state before.place r) ((λ e. omega (arith, ap length e, length-drop before.place text)), none)
        (blank (Err refusal.Text) r (again r z))

    module _ (item : Item) (rest : List ℕ) (found : HasLine (drop before.place text) zeros after item rest) (enough : Bool)
        (room_is : (i : Entry) → answer_of i ≡ item → enough ≡ fits_in i (length after.literals) (length after.numbers)) where
      there : Stands (drop before.place text) (entry found.0)
      there = (found.1, (rest, found.5))

      -- what is answered and left, by whether there is room
      chosen : outcome (entry found.0) before
          ≡ cond enough (Ok (answer_of found.0), state (before.place + length (line_text found.0)) (filled_with (literals_of found.0) (numbers_of found.0) before.rows))
          (Err refusal.Buffer, state before.place (filled_with [] [] before.rows))
      chosen =
          ap (λ b. cond b (Ok (answer_of found.0), state (before.place + length (line_text found.0)) (filled_with (literals_of found.0) (numbers_of found.0) before.rows))
          (Err refusal.Buffer, state before.place (filled_with [] [] before.rows)))
          (ap (λ k. fits_in found.0 k (length before.rows.numbers)) (sym long) ∙ ap (fits_in found.0 (length after.literals)) (sym size)
          ∙ sym (room_is found.0 found.2))

      pub read_short : (r : Rows) → Zeros after r → enough ≡ false → Both (Err refusal.Buffer) (state before.place r)
      read_short r z e =
          pinned (entry found.0) (Err refusal.Buffer) (state before.place r) there
          (blank (Err refusal.Buffer) r (again r z) ∙ sym (rw (chosen, e) refl))

      pub read_line : before.place < length text → enough ≡ true → Both (Ok item) (state (length text - length rest) after)
      read_line h e =
          let i = found.0 in
          let spare = room i (length after.literals) (length after.numbers) (sym (room_is i found.2) ∙ e) in
          let next = length text - length rest in
          let moved : next ≡ before.place + length (line_text i) =
          omega (arith, ap length found.5, length-append (line_text i) rest, length-drop before.place text) in
          let left = filled_held (pos 0) (length before.rows.literals) zeros.literals after.literals (literals_of i) clear.0 found.3 (omega (arith, spare.0, long)) in
          let right = filled_held 0 (length before.rows.numbers) zeros.numbers after.numbers (numbers_of i) clear.1 found.4 (omega (arith, spare.1, size)) in
          let held : after ≡ filled_with (literals_of i) (numbers_of i) before.rows =
          ap (λ xs. rows xs after.numbers) left ∙ ap (rows (filled (pos 0) (length before.rows.literals) (literals_of i))) right in
          pinned (entry i) (Ok item) (state next after) there (same_reading item (answer_of i) next _ after _ (sym found.2) moved held ∙ sym (rw (chosen, e) refl))

  -- of rows that are given otherwise
  module _ (place : ℕ) (answer : Result Item Refusal) (r left : Rows) (both : Both answer (state place r)) (same : left ≡ r) where
    pub read_of : Read text before answer (state place left)
    read_of = subst (λ x. Read text before answer (state place x)) (sym same) both.0

    pub again_of : Reread text before answer (state place left)
    again_of = subst (λ x. Reread text before answer (state place x)) (sym same) both.1
