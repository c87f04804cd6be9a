-- Lines in a row: their literals one after the other, and an entry for each line.
use Rattle.std.specs.Prelude.{ℕ, ◌+◌, Bool, true, false, cond, ◌&&◌, List, [], ◌∷◌, length, take, drop, ℤ, is_some, Some, None, Option, Ok, Err, Result, ◌==◌, nat_lt}
use Rattle.std.specs.List.{slice_get, prefix_len, list_all}
use Rattle.clauses.specs.Clauses.{Clause}
use Rattle.shelf.specs.Lines.{Lines, find}
use Rattle.store.specs.declared.entry.Entry.{Entry}

-- The lines of the entries, cut one after the other from the front of the row.
abbrev pub cut : List Entry → List ℤ → Lines
cut [] row = []
cut (e ∷ es) row = (e.number, take e.length row) ∷ cut es (drop e.length row)

-- how many literals the entries have together
abbrev pub lengths : List Entry → ℕ
lengths [] = 0
lengths (e ∷ es) = e.length + lengths es

-- The first entry starts at a place of the row, each other where the one before it ends, and the last ends with the row.
abbrev pub packed : ℕ → List Entry → ℕ → Bool
packed at [] end = at == end
packed at (e ∷ es) end = e.start == at && packed (at + e.length) es end

-- The entries of the same lines, the first of which starts at a place, and each other where the one before it ends.
abbrev pub lined_up : ℕ → List Entry → List Entry
lined_up at [] = []
lined_up at (e ∷ es) = record { number = e.number; start = at; length = e.length } ∷ lined_up (at + e.length) es

-- The numbers rise.
abbrev pub rises : Lines → Bool
rises [] = true
rises (x ∷ xs) = list_all (λ y. nat_lt x.0 y.0) xs && rises xs

-- how many lines have a smaller number, which is where a line of the number stands, or would stand
abbrev pub place : ℕ → Lines → ℕ
place n xs = prefix_len (λ x. nat_lt x.0 n) xs

-- whether the line at a place has the number
abbrev pub named : ℕ → Option (ℕ × Clause) → Bool
named n None = false
named n (Some x) = x.0 == n

abbrev pub stands : ℕ → ℕ → Lines → Bool
stands n i xs = named n (slice_get xs i)

-- the place of the number's line, if there is one
abbrev pub spot : ℕ → Lines → Option ℕ
spot n xs = cond (is_some (find xs n)) (Some (place n xs)) None

-- that place, or else the one where it would stand
abbrev pub seat : ℕ → Lines → Result ℕ ℕ
seat n xs = cond (is_some (find xs n)) (Ok (place n xs)) (Err (place n xs))

-- how many literals the lines have together
abbrev pub literals_in : Lines → ℕ
literals_in [] = 0
literals_in (x ∷ xs) = length x.1 + literals_in xs
