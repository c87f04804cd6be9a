-- Numbers as decimal text.
use Rattle.std.specs.Prelude.{ℕ, List, decimal}

-- the digits of a number, without leading zeros
abbrev pub text_of : ℕ → List ℕ
text_of n = decimal n
