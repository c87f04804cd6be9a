-- What is wrong with a bad frame.
use Rattle.std.specs.Prelude.{◌≡◌, ℕ, ◌<◌, ◌≢◌, ◌⊎◌}
use Rattle.values.specs.declared.single.Value.{Value}
use Rattle.values.specs.declared.single.Value.TheVariants.{Undefined, One}

-- Every wire of the frame f, of n wires, is defined.
abbrev pub Defined : ℕ → (ℕ → Value) → Type 0
Defined n f = (w : ℕ) → w < n → f w ≢ Undefined

-- w is the lowest undefined wire, or, where every wire is defined, the property wire p, which is not 1.
abbrev pub Fault : ℕ → ℕ → (ℕ → Value) → ℕ → Type 0
Fault n p f w = ((w < n) × (f w ≡ Undefined) × Defined w f) ⊎ (Defined n f × (f p ≢ One) × (w ≡ p))

abbrev pub Faultless : ℕ → ℕ → (ℕ → Value) → Type 0
Faultless n p f = Defined n f × (f p ≡ One)
