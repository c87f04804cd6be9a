-- The DIMACS text of a formula: the line `p cnf V C` with the numbers of variables and clauses, and then a line a clause, each
-- literal with a space behind it, then 0. The clause (-1 2) is the line `-1 2 0`, and the empty clause the line `0`.
use Rattle.std.specs.Prelude.{ℕ, List, [], ◌++◌, length, ℤ, pos, negsuc, Some, None, codes, Option}
use Rattle.std.specs.List.{flat_map}
use Rattle.decimals.specs.Decimals.{text_of}
use Rattle.clauses.specs.Clauses.{Clause, variable}

abbrev pub sign : ℤ → List ℕ
sign (pos x) = []
sign (negsuc x) = codes "-"

-- its variable, with a minus sign where it is negative
abbrev pub literal_text : ℤ → List ℕ
literal_text l = sign l ++ text_of (variable l)

abbrev pub spaced : ℤ → List ℕ
spaced l = literal_text l ++ codes " "

abbrev pub clause_text : Clause → List ℕ
clause_text c = flat_map spaced c ++ codes "0\n"

abbrev pub header : ℕ → ℕ → List ℕ
header V C = codes "p cnf " ++ (text_of V ++ (codes " " ++ (text_of C ++ codes "\n")))

abbrev pub dimacs : ℕ → List Clause → List ℕ
dimacs V cs = header V (length cs) ++ flat_map clause_text cs

-- the literals of a clause that may be absent
abbrev pub literals : Option Clause → Clause
literals None = []
literals (Some c) = c
