-- The rows that a caller lends.
use Rattle.std.specs.Prelude.{◌≡◌, length}
use Rattle.prooftext.specs.Rows as contents
use Rattle.prooftext.specs.declared.rows.Rows.{Rows}

-- what the rows hold
abbrev pub held : Rows → contents.Rows
held r = contents.rows r.literals.now r.numbers.now

-- The same two rows are lent, as long as before.
abbrev pub SameRows : Rows → Rows → Type 0
SameRows r s =
    (s.literals.ghost_name ≡ r.literals.ghost_name) × (s.numbers.ghost_name ≡ r.numbers.ghost_name)
    × (length s.literals.now ≡ length r.literals.now) × (length s.numbers.now ≡ length r.numbers.now)
