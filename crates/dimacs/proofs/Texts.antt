-- The literals of a clause, place by place.
use Rattle.std.proofs.Common.{◌≡◌, ℕ, ◌<◌, ◌≤◌, length, get_or, ℤ, pos, Some, None, Option, ⊎_elim, arith}
use Rattle.std.proofs.lemmas.Option.{slice_get-get_or, slice_get_past as nth_past}
use Rattle.std.proofs.lemmas.Bool.{cases_lt}
use Rattle.clauses.specs.Clauses.{Clause, clause_literal}
use Rattle.dimacs.specs.Dimacs.{literals}

-- The literal at a place is one of the clause, and where there is none the clause has ended.
pub literal_at : (o : Option Clause) (k : ℕ) (l : ℤ) → clause_literal o k ≡ Some l → (k < length (literals o)) × (get_or (literals o) k (pos 0) ≡ l)
literal_at None k l e = let z : ◌≡◌ {A = ℕ} 0 1 = cc in absurd (omega arith)
literal_at (Some c) k l e =
    ⊎_elim (λ h. let f = slice_get-get_or c k (pos 0) h in (h, cc)) (λ h. let f = nth_past c k h in let z : ◌≡◌ {A = ℕ} 0 1 = cc in absurd (omega arith)) (cases_lt k (length c))

pub no_literal : (o : Option Clause) (k : ℕ) → clause_literal o k ≡ None → length (literals o) ≤ k
no_literal None k e = omega arith
no_literal (Some c) k e =
    ⊎_elim (λ h. let f = slice_get-get_or c k (pos 0) h in let z : ◌≡◌ {A = ℕ} 0 1 = cc in absurd (omega arith)) (λ h. h) (cases_lt k (length c))
