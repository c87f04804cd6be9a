-- What a text begins with, and what stands at a place of it.
use Rattle.std.specs.Prelude.{◌≡◌, ℕ, ◌+◌, ◌<◌, Bool, true, false, ◌≢◌, List, ◌∷◌, ◌++◌, length, drop}
use Rattle.proofgrammar.specs.Parts.{Stops}

-- whether a byte stands there
abbrev pub ByteAt : ℕ → List ℕ → ℕ → Bool → Type 0
ByteAt c bytes at true = (at < length bytes) × (drop at bytes ≡ c ∷ drop (at + 1) bytes)
ByteAt c bytes at false = (s : List ℕ) → drop at bytes ≢ c ∷ s

-- The byte comes first, and the rest is behind it; or it does not come first.
abbrev pub HasByte : ℕ → List ℕ → List ℕ → Type 0
HasByte c bytes rest = bytes ≡ c ∷ rest

abbrev pub NoByte : ℕ → List ℕ → Type 0
NoByte c bytes = (s : List ℕ) → bytes ≢ c ∷ s

-- A word of a kind comes first, and the rest is behind it; or no such word comes first.
abbrev pub HasWord : {X : Type 0} → (X → List ℕ) → (X → Type 0) → List ℕ → X → List ℕ → Type 0
HasWord text Small bytes x rest = Small x × Stops rest × (bytes ≡ text x ++ rest)

abbrev pub NoWord : {X : Type 0} → (X → List ℕ) → (X → Type 0) → List ℕ → Type 0
NoWord {X} text Small bytes = (x : X) (s : List ℕ) → Small x → Stops s → bytes ≢ text x ++ s
