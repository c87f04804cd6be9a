-- The two rows that a line is read into.
use Rattle.std.specs.Prelude.{ℕ, ◌-◌, List, ◌++◌, length, replicate, ℤ}

pub record Rows : Type 0 where
  pub literals : List ℤ
  pub numbers : List ℕ

abbrev pub rows : List ℤ → List ℕ → Rows
rows ls ns = record { literals = ls; numbers = ns }

-- a row of a length that holds xs, and nil past them
abbrev pub filled : {X : Type 0} → X → ℕ → List X → List X
filled nil n xs = xs ++ replicate (n - length xs) nil
