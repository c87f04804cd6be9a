-- Which lines a rule allows together, and room for them.
use Rattle.std.specs.Prelude.{◌≡◌, ℕ, ◌≤◌, Bool, true, length, is_some}
use Rattle.std.specs.List.{list_all}
use Rattle.shelf.specs.Lines.{Lines, Costs, total}
use Rattle.store.specs.Rows.{literals_in}

-- Each line is of a length that has a cost.
abbrev pub priced : Costs → Lines → Bool
priced cost xs = list_all (λ x. is_some (cost (length x.1))) xs

-- Room for so many lines and literals is enough for any lines that each have a cost, and are within the capacity.
abbrev pub Holds : Costs → ℕ → ℕ → ℕ → Type 0
Holds cost capacity lines literals = (xs : Lines) → priced cost xs ≡ true → total cost xs ≤ capacity → (length xs ≤ lines) × (literals_in xs ≤ literals)
