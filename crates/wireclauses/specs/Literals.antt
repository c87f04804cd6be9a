-- The whole numbers that literals stand for.
use Rattle.std.specs.Prelude.{[], ◌∷◌, ℤ}
use Rattle.clauses.specs.Clauses.{Clause, plus, minus}
use Rattle.wireclauses.specs.declared.literals.Literal.{Literal}
use Rattle.wireclauses.specs.declared.literals.Literal.TheVariants.{Plus, Minus}
use Rattle.wireclauses.specs.declared.literals.Few.{Few}
use Rattle.wireclauses.specs.declared.literals.Few.TheVariants.{One, Two, Three}

abbrev pub literal_of : Literal → ℤ
literal_of (Plus x) = plus x
literal_of (Minus x) = minus x

abbrev pub few_of : Few → Clause
few_of (One a) = literal_of a ∷ []
few_of (Two a b) = literal_of a ∷ literal_of b ∷ []
few_of (Three a b c) = literal_of a ∷ literal_of b ∷ literal_of c ∷ []
