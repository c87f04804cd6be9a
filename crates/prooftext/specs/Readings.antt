-- What a call of the reader answers and leaves.
use Rattle.std.specs.Prelude.{◌≡◌, ℕ, ◌+◌, Bool, cond, ◌&&◌, List, [], length, drop, pos, Ok, Err, Result, nat_le}
use Rattle.refusals.specs.declared.Refusal.{Refusal}
use Rattle.refusals.specs.declared.Refusal.TheVariants as refusal
use Rattle.clauses.specs.Clauses.{Clause}
use Rattle.proofgrammar.specs.Grammar.{Entry, line_text, Next, end, entry, other, Stands}
use Rattle.prooftext.specs.declared.item.Item.{Item}
use Rattle.prooftext.specs.declared.item.Item.TheVariants.{End}
use Rattle.prooftext.specs.Rows.{Rows, rows, filled}
use Rattle.prooftext.specs.Items.{answer_of, literals_of, numbers_of}

-- Around a call: how much of the text is read, and the rows.
pub record State : Type 0 where
  pub place : ℕ
  pub rows : Rows

abbrev pub state : ℕ → Rows → State
state p r = record { place = p; rows = r }

-- rows that hold the literals and the numbers, and 0 past them
abbrev pub filled_with : Clause → List ℕ → Rows → Rows
filled_with ls ns r = rows (filled (pos 0) (length r.literals) ls) (filled 0 (length r.numbers) ns)

abbrev pub fits_in : Entry → ℕ → ℕ → Bool
fits_in i literals numbers = nat_le (length (literals_of i)) literals && nat_le (length (numbers_of i)) numbers

-- What is answered and left, by what stands next in the text.
abbrev pub outcome : Next → State → Result Item Refusal × State
outcome end s = (Ok End, state s.place (filled_with [] [] s.rows))
outcome (entry i) s =
    cond (fits_in i (length s.rows.literals) (length s.rows.numbers))
    (Ok (answer_of i), state (s.place + length (line_text i)) (filled_with (literals_of i) (numbers_of i) s.rows))
    (Err refusal.Buffer, state s.place (filled_with [] [] s.rows))
outcome other s = (Err refusal.Text, state s.place (filled_with [] [] s.rows))

-- Something stands next, and the call answers and leaves what belongs to it.
abbrev pub Read : List ℕ → State → Result Item Refusal → State → Type 0
Read text before answer after = (n : Next) × Stands (drop before.place text) n × (◌≡◌ {A = Result Item Refusal × State} (answer, after) (outcome n before))

-- Whatever stands next, the call answers and leaves what belongs to it: so a line that is written is read back.
abbrev pub Reread : List ℕ → State → Result Item Refusal → State → Type 0
Reread text before answer after =
    (n : Next) → Stands (drop before.place text) n → ◌≡◌ {A = Result Item Refusal × State} (answer, after) (outcome n before)
