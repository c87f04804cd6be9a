-- A table of values as the list of its rows.
use Rattle.std.specs.Prelude.{ℕ, zero, suc, List, [], ◌∷◌, take, drop, vec_items}
use Rattle.values.specs.declared.single.Value.{Value}
use Rattle.runs.specs.declared.table.Table.{Table}

-- a list cut into count rows of so many elements
abbrev pub cut : {X : Type 0} → ℕ → ℕ → List X → List (List X)
cut width zero xs = []
cut width (suc count) xs = take width xs ∷ cut width count (drop width xs)

abbrev pub rows_of : Table → List (List Value)
rows_of t = cut t.width t.count (vec_items t.values)
