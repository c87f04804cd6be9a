-- The wires that gates name are below the number of wires.
use Rattle.std.proofs.Common.{◌≡◌, ℕ, ◌<◌, true, ltb, List, [], ◌∷◌, length, get_or, refl}
use Rattle.std.specs.List.{AllByRecursion as AllOf}
use Rattle.std.proofs.lemmas.Bool.{and_parts}
use Rattle.std.proofs.lemmas.Bool.Decides.{Decides-ltb}
use Rattle.std.proofs.ByRecursion.{Decides-by_and, All-get_or}
use Rattle.gates.specs.declared.gate.Gate.{Gate}
use Rattle.gates.specs.declared.gate.Gate.TheVariants.{Input}
use Rattle.gates.specs.Gates.{wires, all_below, named}

-- every wire that the gate names is below n
abbrev pub NamesBelow : ℕ → Gate → Type 0
NamesBelow n g = AllOf (λ y. y < n) (wires g)

pub names_below : (n : ℕ) (g : Gate) → all_below n (wires g) ≡ true → NamesBelow n g
names_below n g = (Decides-by_and (λ y. ltb y n) (λ y. y < n) (all_below n) (λ y. Decides-ltb y n) refl (λ _ _. refl) (wires g)).0

pub all_named : (n : ℕ) (gs : List Gate) → named n gs ≡ true → AllOf (NamesBelow n) gs
all_named n [] h = tt
all_named n (g ∷ gs) h = let k = and_parts (all_below n (wires g)) (named n gs) h in (names_below n g k.0, all_named n gs k.1)

pub wires_below : (gs : List Gate) → named (length gs) gs ≡ true → (w : ℕ) → w < length gs → NamesBelow (length gs) (get_or gs w Input)
wires_below gs h w l = All-get_or (NamesBelow (length gs)) gs w Input l (all_named (length gs) gs h)
