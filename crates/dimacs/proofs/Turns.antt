-- A line, literal by literal, and the text, line by line.
use Rattle.std.proofs.Common.{◌≡◌, ℕ, ◌+◌, ◌<◌, ◌≤◌, List, [], length, get_or, ℤ, pos, Some, None, Option, sym, ap, ◌∙◌, add-one}
use Rattle.std.specs.Option.{unwrap_or}
use Rattle.std.proofs.lemmas.Option.{slice_get-get_or}
use Rattle.clauses.specs.Clauses.{Clause, clause_literal, length_of, numbered}
use Rattle.sources.specs.declared.formula.Formula.{Formula}
use Rattle.sources.specs.Meaning.{clauses_of}
use Rattle.dimacs.specs.Dimacs.{literals}
use Rattle.dimacs.proofs.Texts.{literal_at, no_literal}

-- the clause of a number
abbrev pub clause_at : Formula → ℕ → Clause
clause_at f number = literals (numbered (clauses_of f) number)

-- A clause that is absent has no literals.
pub literals_length : (c : Option Clause) (asked : Option ℕ) (n : ℕ) → asked ≡ length_of c → n ≡ unwrap_or asked 0 → n ≡ length (literals c)
literals_length None asked n e p = p ∙ ap (λ o. unwrap_or o 0) e
literals_length (Some c) asked n e p = p ∙ ap (λ o. unwrap_or o 0) e

module _ (f : Formula) (number k : ℕ) where
  pub found : (l : ℤ) → Some l ≡ clause_literal (numbered (clauses_of f) number) k → (k < length (clause_at f number)) × (get_or (clause_at f number) k (pos 0) ≡ l)
  found l e = literal_at (numbered (clauses_of f) number) k l (sym e)

  pub ended : None ≡ clause_literal (numbered (clauses_of f) number) k → length (clause_at f number) ≤ k
  ended e = no_literal (numbered (clauses_of f) number) k (sym e)

-- The clause of the number behind k is the k-th of the formula, counted from 0.
pub numbered_at : (cs : List Clause) (k : ℕ) → k < length cs → get_or cs k [] ≡ literals (numbered cs (k + 1))
numbered_at cs k h = rw add-one (ap literals (sym (slice_get-get_or cs k [] h)))
