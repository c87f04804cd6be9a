-- The lines on a shelf: a finite map from numbers to clauses, and what it costs to keep them.
use Rattle.std.specs.Prelude.{ℕ, ◌+◌, ◌<◌, Bool, false, cond, not, ◌&&◌, List, [], ◌∷◌, length, is_some, Some, None, Option, ◌==◌, nat_le, nat_lt}
use Rattle.std.specs.Option.{unwrap_or}
use Rattle.std.specs.List.{AllByRecursion as AllOf}
use Rattle.clauses.specs.Clauses.{Clause}

-- Each line with its number, in rising order of number, so that there is one list for each map.
abbrev pub Lines : Type 0
Lines = List (ℕ × Clause)

abbrev pub Rising : Lines → Type 0
Rising [] = Unit {0}
Rising (x ∷ xs) = AllOf (λ y. x.0 < y.0) xs × Rising xs

abbrev pub find : Lines → ℕ → Option Clause
find [] k = None
find (x ∷ xs) k = cond (k == x.0) (Some x.1) (find xs k)

-- the map with one line more, of a number that it lacks
abbrev pub insert : ℕ → Clause → Lines → Lines
insert n c [] = (n, c) ∷ []
insert n c (x ∷ xs) = cond (nat_lt n x.0) ((n, c) ∷ x ∷ xs) (x ∷ insert n c xs)

abbrev pub remove : ℕ → Lines → Lines
remove n [] = []
remove n (x ∷ xs) = cond (n == x.0) (remove n xs) (x ∷ remove n xs)

-- What a line costs goes by its length; a length without a cost is never kept.
abbrev pub Costs : Type 0
Costs = ℕ → Option ℕ

-- what all lines cost together
abbrev pub total : Costs → Lines → ℕ
total cost [] = 0
total cost (x ∷ xs) = unwrap_or (cost (length x.1)) 0 + total cost xs

abbrev pub affords : ℕ → ℕ → Option ℕ → Bool
affords capacity used None = false
affords capacity used (Some k) = nat_le (used + k) capacity

-- One more line is kept if its number is not present, its length has a cost, and this cost and those of the lines kept are
-- within the capacity.
abbrev pub keeps : ℕ → Costs → Lines → ℕ → Clause → Bool
keeps capacity cost lines n c = not (is_some (find lines n)) && affords capacity (total cost lines) (cost (length c))
