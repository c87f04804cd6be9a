-- The words that a shelf is made with.
use Rattle.std.specs.Prelude.{ℕ, min}

-- Those past 1,048,576 do not count.
abbrev pub counted : ℕ → ℕ
counted words = min words 1048576
