-- What a store holds.
use Rattle.std.specs.Prelude.{◌≡◌, ℕ, ◌+◌, ◌≤◌, Bool, ◌&&◌, length, vec_items, vec_capacity, nat_le, nat_lt}
use Rattle.shelf.specs.Lines.{Lines}
use Rattle.store.specs.declared.store.Store.{Store}
use Rattle.store.specs.Rows.{cut, literals_in}

abbrev pub lines_of : Store → Lines
lines_of s = cut (vec_items s.entries) (vec_items s.row)

-- Nothing but the memo differs.
abbrev pub Untouched : Store → Store → Type 0
Untouched s t = (t.entries ≡ s.entries) × (t.row ≡ s.row)

-- for how many lines, and for how many literals, there is room
abbrev pub line_room : Store → ℕ
line_room s = vec_capacity s.entries

abbrev pub literal_room : Store → ℕ
literal_room s = vec_capacity s.row

-- The second has no less room than the first.
abbrev pub Roomy : Store → Store → Type 0
Roomy s t = (line_room s ≤ line_room t) × (literal_room s ≤ literal_room t)

-- There is room for one more line, of a length.
abbrev pub fits : Store → ℕ → Bool
fits s k = nat_lt (length (lines_of s)) (line_room s) && nat_le (literals_in (lines_of s) + k) (literal_room s)
