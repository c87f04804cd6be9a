-- Literals, clauses and valuations.
-- A literal is a whole number: a variable, counted from 1, or its negative. In definitions a variable goes by its number less
-- one: variable x has the literals x + 1 and -(x + 1), and a valuation gives its value at x.
use Rattle.std.specs.Prelude.{◌≡◌, ℕ, zero, suc, ◌<◌, ◌≤◌, Bool, true, false, not, ◌||◌, List, [], ◌∷◌, ◌++◌, length, ℤ, pos, negsuc, Some, None, Option}
use Rattle.std.specs.List.{slice_get, AllByRecursion as AllOf}

abbrev pub Clause : Type 0
Clause = List ℤ

abbrev pub Valuation : Type 0
Valuation = ℕ → Bool

abbrev pub plus : ℕ → ℤ
plus x = pos (suc x)

abbrev pub minus : ℕ → ℤ
minus x = negsuc x

-- 0 is no literal, and no valuation makes it true.
abbrev pub true_literal : Valuation → ℤ → Bool
true_literal v (pos zero) = false
true_literal v (pos (suc x)) = v x
true_literal v (negsuc x) = not (v x)

abbrev pub some_true : Valuation → Clause → Bool
some_true v [] = false
some_true v (l ∷ c) = true_literal v l || some_true v c

-- Every clause has a true literal.
abbrev pub Satisfies : Valuation → List Clause → Type 0
Satisfies v cs = AllOf (λ c. some_true v c ≡ true) cs

-- the number of a literal's variable
abbrev pub variable : ℤ → ℕ
variable (pos x) = x
variable (negsuc x) = suc x

-- Every literal's variable is one of 1 to V.
abbrev pub Over : ℕ → List Clause → Type 0
Over V cs = AllOf (λ c. AllOf (λ l. (0 < variable l) × (variable l ≤ V)) c) cs

-- the clause of a number, counted from 1
abbrev pub numbered : List Clause → ℕ → Option Clause
numbered cs zero = None
numbered cs (suc k) = slice_get cs k

-- f 0, then f 1, and so on up to f (n - 1)
abbrev pub across : {A : Type 0} → ℕ → (ℕ → List A) → List A
across zero f = []
across (suc n) f = across n f ++ f n

-- how many literals a clause has that may be absent, and its literal at a place, counted from 0
abbrev pub length_of : Option Clause → Option ℕ
length_of None = None
length_of (Some c) = Some (length c)

abbrev pub clause_literal : Option Clause → ℕ → Option ℤ
clause_literal None at = None
clause_literal (Some c) at = slice_get c at
