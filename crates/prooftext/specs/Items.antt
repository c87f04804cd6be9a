-- Proof lines as they are answered.
use Rattle.std.specs.Prelude.{◌≡◌, ℕ, ◌≢◌, List, [], ◌++◌, length}
use Rattle.clauses.specs.Clauses.{Clause}
use Rattle.proofgrammar.specs.Grammar.{Entry, line, strike, Proper, line_text}
use Rattle.prooftext.specs.declared.item.Item.{Item}
use Rattle.prooftext.specs.declared.item.Item.TheVariants.{Line, Strike}
use Rattle.prooftext.specs.Lists.{Held}
use Rattle.prooftext.specs.Rows.{Rows}

-- what is answered of a proof line
abbrev pub answer_of : Entry → Item
answer_of (line n ls hs) = Line n (length ls) (length hs)
answer_of (strike n ss) = Strike (length ss)

abbrev pub literals_of : Entry → Clause
literals_of (line n ls hs) = ls
literals_of (strike n ss) = []

-- the hints, or the numbers that are struck
abbrev pub numbers_of : Entry → List ℕ
numbers_of (line n ls hs) = hs
numbers_of (strike n ss) = ss

-- A proof line comes first, read into rows, and the rest is behind it; or none comes first.
abbrev pub HasLine : List ℕ → Rows → Rows → Item → List ℕ → Type 0
HasLine bytes before after item rest =
    (i : Entry) × Proper i × (answer_of i ≡ item) × Held before.literals after.literals (literals_of i)
    × Held before.numbers after.numbers (numbers_of i) × (bytes ≡ line_text i ++ rest)

abbrev pub NoLine : List ℕ → Type 0
NoLine bytes = (i : Entry) (s : List ℕ) → Proper i → bytes ≢ line_text i ++ s
