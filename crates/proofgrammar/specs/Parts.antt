-- The parts of a proof line. A word ends where no digit comes next; it may also be the 0 that ends a list.
use Rattle.std.specs.Prelude.{◌≡◌, ℕ, ◌≤◌, false, List, [], ◌∷◌, ◌++◌, ℤ}
use Rattle.std.specs.Char.{is_ascii_digit}
use Rattle.std.specs.Fmt.{signed_decimal}
use Rattle.clauses.specs.Clauses.{Clause, variable}
use Rattle.decimals.specs.Decimals.{text_of}
use Rattle.proofgrammar.specs.Grammar.{words}

-- no digit comes next
abbrev pub Stops : List ℕ → Type 0
Stops [] = Unit {0}
Stops (c ∷ cs) = is_ascii_digit c ≡ false

abbrev pub SmallNumber : ℕ → Type 0
SmallNumber n = n ≤ 2147483647

abbrev pub SmallLiteral : ℤ → Type 0
SmallLiteral l = variable l ≤ 2147483647

-- the last list of a line, up to the rest of the text
abbrev pub tail_text : List ℕ → List ℕ → List ℕ
tail_text ns rest = words text_of ns ++ (48 ∷ 10 ∷ rest)

-- what stands behind the number and the space of a line, up to the rest of the text
abbrev pub line_body : Clause → List ℕ → List ℕ → List ℕ
line_body ls hs rest = words signed_decimal ls ++ (48 ∷ 32 ∷ tail_text hs rest)

-- what stands behind the d of a strike
abbrev pub strike_tail : List ℕ → List ℕ → List ℕ
strike_tail ss rest = 32 ∷ tail_text ss rest

abbrev pub strike_body : List ℕ → List ℕ → List ℕ
strike_body ss rest = 100 ∷ strike_tail ss rest
