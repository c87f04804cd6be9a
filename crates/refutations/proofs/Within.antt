-- The test whether a literal names a variable.
use Rattle.std.proofs.Common.{◌≡◌, ℕ, true, ltb, leb, ℤ}
use Rattle.std.proofs.lemmas.Bool.{and_parts, and_from, ltb-true, leb-true, lt-ltb, le-leb}
use Rattle.clauses.specs.Clauses.{variable}
use Rattle.hints.specs.Hints.{names}
use Rattle.refutations.specs.Refuting.{Within}

pub names_within : (V : ℕ) (l : ℤ) → names V l ≡ true → Within V l
names_within V l e =
    let parts = and_parts (ltb 0 (variable l)) (leb (variable l) V) e in
    (ltb-true 0 (variable l) parts.0, leb-true (variable l) V parts.1)

pub within_names : (V : ℕ) (l : ℤ) → Within V l → names V l ≡ true
within_names V l w = and_from (ltb 0 (variable l)) (leb (variable l) V) (lt-ltb 0 (variable l) w.0) (le-leb (variable l) V w.1)
