-- What a refutation stands for, by the meaning of its formula and its shelf.
use Rattle.std.specs.Prelude.{ℕ, Option}
use Rattle.clauses.specs.Clauses.{Clause}
use Rattle.shelf.specs.Lines.{Lines, Costs}
use Rattle.refuting.specs.Judging.{Terms, Progress, terms, progress}
use Rattle.refuting.specs.declared.Refutation.{Refutation}

abbrev pub terms_of : {F S : Type 0} → (F → ℕ → Option Clause) → (S → ℕ) → Costs → Refutation F S → Terms
terms_of clauses capacity cost r = terms r.variables r.premises.count (clauses r.premises.formula) (capacity r.premises.shelf) cost

abbrev pub progress_of : {F S : Type 0} → (S → Lines) → Refutation F S → Progress
progress_of lines r = progress r.last (lines r.premises.shelf)
