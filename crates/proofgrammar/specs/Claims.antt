-- What is proved of proof text.
use Rattle.std.specs.Prelude.{◌≡◌, ℕ, List, ◌++◌}
use Rattle.proofgrammar.specs.Grammar.{Entry, Proper, line_text, Next, Stands}

-- A text begins with at most one proof line.
abbrev pub OneReading : Type 0
OneReading = (i j : Entry) (r s : List ℕ) → Proper i → Proper j → line_text i ++ r ≡ line_text j ++ s → (i ≡ j) × (r ≡ s)

-- One thing stands next in a text.
abbrev pub OneNext : Type 0
OneNext = (text : List ℕ) (v w : Next) → Stands text v → Stands text w → v ≡ w
