-- Kinds of words, of which lists are made.
use Rattle.std.specs.Prelude.{◌≡◌, ℕ, ◌≢◌, List, [], ◌∷◌, ◌++◌}
use Rattle.proofgrammar.specs.Parts.{Stops}

-- the texts of two words are the same, with what stops them
abbrev pub One : {X : Type 0} → (X → List ℕ) → (X → Type 0) → Type 0
One {X} text Small = (x y : X) (s t : List ℕ) → Small x → Small y → Stops s → Stops t → text x ++ s ≡ text y ++ t → (x ≡ y) × (s ≡ t)

-- Of the small words all are good but nil, whose text is 0 and ends a list.
pub record Kind {X : Type 0} (text : X → List ℕ) (Small Good : X → Type 0) (nil : X) : Type 0 where
  pub one : One text Small
  pub small : (x : X) → Good x → Small x
  pub good : (x : X) → Small x → x ≢ nil → Good x
  pub nil_small : Small nil
  pub nil_text : text nil ≡ 48 ∷ []
  pub nil_bad : (x : X) → Good x → x ≢ nil
