-- The parts of a proof line that a text begins with, read into rows.
use Rattle.std.specs.Prelude.{◌≡◌, ℕ, ◌≢◌, List, ◌∷◌, ◌++◌, length}
use Rattle.std.specs.List.{AllByRecursion as AllOf}
use Rattle.clauses.specs.Clauses.{Clause}
use Rattle.decimals.specs.Decimals.{text_of}
use Rattle.proofgrammar.specs.Grammar.{Number, Literal}
use Rattle.proofgrammar.specs.Parts.{line_body}
use Rattle.prooftext.specs.declared.item.Item.{Item}
use Rattle.prooftext.specs.declared.item.Item.TheVariants.{Line}
use Rattle.prooftext.specs.Lists.{Held}
use Rattle.prooftext.specs.Rows.{Rows}

-- the number of a line, and the rest behind its space
abbrev pub HasFront : List ℕ → ℕ → List ℕ → Type 0
HasFront bytes n rest = Number n × (bytes ≡ text_of n ++ (32 ∷ rest))

abbrev pub NoFront : List ℕ → Type 0
NoFront bytes = (n : ℕ) (s : List ℕ) → Number n → bytes ≢ text_of n ++ (32 ∷ s)

-- numbers behind which the line ends, how many they are, and the lines behind it
abbrev pub HasNumbers : (List ℕ → List ℕ → List ℕ) → List ℕ → List ℕ → List ℕ → ℕ → List ℕ → Type 0
HasNumbers text bytes before after n rest = (xs : List ℕ) × AllOf Number xs × (length xs ≡ n) × Held before after xs × (bytes ≡ text xs rest)

abbrev pub NoNumbers : (List ℕ → List ℕ → List ℕ) → List ℕ → Type 0
NoNumbers text bytes = (xs s : List ℕ) → AllOf Number xs → bytes ≢ text xs s

-- literals and hints of the clause n, what is answered of them, and the lines behind
abbrev pub HasBody : ℕ → List ℕ → Rows → Rows → Item → List ℕ → Type 0
HasBody n bytes before after item rest =
    (ls : Clause) × (hs : List ℕ) × AllOf Literal ls × AllOf Number hs × (Line n (length ls) (length hs) ≡ item) × Held before.literals after.literals ls
    × Held before.numbers after.numbers hs × (bytes ≡ line_body ls hs rest)

abbrev pub NoBody : List ℕ → Type 0
NoBody bytes = (ls : Clause) (hs s : List ℕ) → AllOf Literal ls → AllOf Number hs → bytes ≢ line_body ls hs s
