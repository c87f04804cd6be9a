-- A list that a text begins with, read into a row.
use Rattle.std.specs.Prelude.{◌≡◌, ℕ, ◌≤◌, ◌≢◌, List, ◌∷◌, ◌++◌, length, drop}
use Rattle.std.specs.List.{AllByRecursion as AllOf}
use Rattle.proofgrammar.specs.Grammar.{words}
use Rattle.proofgrammar.specs.Parts.{Stops}

-- The row holds the words, and past them what it held before, if it has room for them.
abbrev pub Held : {X : Type 0} → List X → List X → List X → Type 0
Held before after xs = length xs ≤ length before → after ≡ xs ++ drop (length xs) before

-- Words up to a 0 come first, so many, and the rest is behind the 0; or no such list comes first.
abbrev pub HasList : {X : Type 0} → (X → List ℕ) → (X → Type 0) → List ℕ → List X → List X → ℕ → List ℕ → Type 0
HasList {X} text Good bytes before after n rest =
    (xs : List X) × AllOf Good xs × (length xs ≡ n) × Held before after xs × Stops rest × (bytes ≡ words text xs ++ (48 ∷ rest))

abbrev pub NoList : {X : Type 0} → (X → List ℕ) → (X → Type 0) → List ℕ → Type 0
NoList {X} text Good bytes = (xs : List X) (s : List ℕ) → AllOf Good xs → Stops s → bytes ≢ words text xs ++ (48 ∷ s)
