-- What an accepted line means.
use Rattle.std.specs.Prelude.{◌≡◌, ℕ, true, Ok, Option}
use Rattle.clauses.specs.Clauses.{Clause, Valuation, some_true}
use Rattle.hints.specs.Hints.{Verdict}
use Rattle.refutations.specs.Claims.{Models}

-- If the line is accepted, every valuation that satisfies all the clauses satisfies the line.
abbrev pub Holds : Verdict → (ℕ → Option Clause) → Clause → Type 0
Holds answer clauses line = answer ≡ Ok tt → (v : Valuation) → Models v clauses → some_true v line ≡ true
