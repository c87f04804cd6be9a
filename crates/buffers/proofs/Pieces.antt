-- The bytes of a list go into a sink, one piece for each of its elements.
use Rattle.std.proofs.Common.{◌≡◌, ℕ, ◌+◌, ◌<◌, ◌≤◌, List, [], ◌++◌, length, get_or, take, sym, ap, ◌∙◌, subst}
use Rattle.std.specs.List.{flat_map}
use Rattle.std.proofs.lemmas.List.{flat_map_more, take_more, take_all}

-- the pieces of the first i
abbrev pub pieces : {X A : Type 0} → (X → List A) → List X → ℕ → List A
pieces f xs i = flat_map f (take i xs)

pub pieces_all : {X A : Type 0} (f : X → List A) (xs : List X) (i : ℕ) → length xs ≤ i → pieces f xs i ≡ flat_map f xs
pieces_all f xs i h = ap (flat_map f) (take_all i xs h)

-- what a sink takes, where it takes in one what comes one after the other
module _ {S : Type 0} (takes : S → List ℕ → S → Type 0) (then : (x y z : S) (first next : List ℕ) → takes x first y → takes y next z → takes x (first ++ next) z) where
  module _ {X : Type 0} (f : X → List ℕ) (xs : List X) (i : ℕ) (x y z : S) (done : takes x (pieces f xs i) y) where
    pub row_more : (d : X) → i < length xs → takes y (f (get_or xs i d)) z → takes x (pieces f xs (i + 1)) z
    row_more d h p =
        subst (λ text. takes x text z) (flat_map_more f [] (take i xs) (get_or xs i d) ∙ sym (ap (flat_map f) (take_more xs i d h)))
        (then x y z (pieces f xs i) (f (get_or xs i d)) done p)

    -- and what follows the row
    pub row_then : (last : List ℕ) → length xs ≤ i → takes y last z → takes x (flat_map f xs ++ last) z
    row_then last h p = then x y z (flat_map f xs) last (subst (λ text. takes x text y) (pieces_all f xs i h) done) p
