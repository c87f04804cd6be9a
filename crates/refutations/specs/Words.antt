-- The hint rule in words.
use Rattle.std.specs.Prelude.{◌≡◌, ℕ, ◌<◌, Bool, true, false, not, ◌≢◌, ◌⊎◌, ◌↔◌, List, [], ◌∷◌, ℤ, neg_ℤ, Some, None, Ok, Err, Option}
use Rattle.std.specs.List.{AllByRecursion as AllOf}
use Rattle.refusals.specs.declared.Refusal.TheVariants as refusal
use Rattle.clauses.specs.Clauses.{Clause, variable}
use Rattle.hints.specs.Hints.{Marks, unset, value, assign, falsified, reading, by_hints}
use Rattle.hints.specs.declared.Reading.TheVariants.{Conflict, Forced, Slack}
use Rattle.refutations.specs.Refuting.{Within}

abbrev pub In : ℤ → Clause → Type 0
In l [] = ⊥
In l (k ∷ ks) = (k ≡ l) ⊎ In l ks

-- ---- the marks

-- A literal that is made true is true, its negative is false, and the literals of other variables are as before; likewise if it
-- is made false.
abbrev pub MarksInWords : Type 0
MarksInWords =
    (m : Marks) (l : ℤ) (b : Bool) → 0 < variable l
    → (value (assign m l b) l ≡ Some b)
    × (value (assign m l b) (neg_ℤ l) ≡ Some (not b))
    × ((k : ℤ) → variable k ≢ variable l → value (assign m l b) k ≡ value m k)

-- ---- a line

-- A line follows at once where it has a literal and its negative; else the line's literals are what is false at first.
abbrev pub LineInWords : Type 0
LineInWords =
    (V : ℕ) (line : Clause) → AllOf (Within V) line
    → ((falsified unset line ≡ None) ↔ ((l : ℤ) × In l line × In (neg_ℤ l) line))
    × ((m : Marks) → falsified unset line ≡ Some m → (l : ℤ) → Within V l → (value m l ≡ Some false) ↔ In l line)

-- ---- a clause under the marks

-- Every literal is one of the variables 1 to V, or its negative, and false.
abbrev pub AllFalse : ℕ → Marks → Clause → Type 0
AllFalse V m c = AllOf (λ l. Within V l × (value m l ≡ Some false)) c

-- l is unset and stands in the clause, perhaps more than once, and the clause's other literals are false.
abbrev pub OneUnset : ℕ → Marks → Clause → ℤ → Type 0
OneUnset V m c l = Within V l × (value m l ≡ None) × In l c × AllOf (λ k. (k ≡ l) ⊎ (Within V k × (value m k ≡ Some false))) c

abbrev pub Neither : ℕ → Marks → Clause → Type 0
Neither V m c = (AllFalse V m c → ⊥) × ((l : ℤ) → OneUnset V m c l → ⊥)

-- A clause is in conflict exactly if all its literals are false, forces a literal exactly if that is its one unset literal, and
-- is slack exactly if neither is so.
abbrev pub ReadingInWords : Type 0
ReadingInWords =
    (V : ℕ) (m : Marks) (c : Clause)
    → ((reading V m Conflict c ≡ Conflict) ↔ AllFalse V m c)
    × ((l : ℤ) → (reading V m Conflict c ≡ Forced l) ↔ OneUnset V m c l)
    × ((reading V m Conflict c ≡ Slack) ↔ Neither V m c)

-- ---- the hints, in order

-- There is a clause, it forces a literal, and Q holds of the marks with that literal made true.
abbrev pub Forces : ℕ → Marks → Option Clause → (Marks → Type 0) → Type 0
Forces V m o Q = (c : Clause) × (l : ℤ) × (o ≡ Some c) × OneUnset V m c l × Q (assign m l true)

-- Every hint names a clause that forces a literal.
abbrev pub AllForce : ℕ → (ℕ → Option Clause) → Marks → List ℕ → Type 0
AllForce V clauses m [] = Unit {0}
AllForce V clauses m (h ∷ hs) = Forces V m (clauses h) (λ m'. AllForce V clauses m' hs)

-- Hint after hint names a clause that forces a literal, up to a hint where P holds of the marks and of what the hint names.
abbrev pub Stops : ℕ → (ℕ → Option Clause) → (Marks → Option Clause → Type 0) → Marks → List ℕ → Type 0
Stops V clauses P m [] = ⊥
Stops V clauses P m (h ∷ hs) = P m (clauses h) ⊎ Forces V m (clauses h) (λ m'. Stops V clauses P m' hs)

abbrev pub InConflict : ℕ → Marks → Option Clause → Type 0
InConflict V m o = (c : Clause) × (o ≡ Some c) × AllFalse V m c

abbrev pub IsSlack : ℕ → Marks → Option Clause → Type 0
IsSlack V m o = (c : Clause) × (o ≡ Some c) × Neither V m c

-- Hints are taken exactly if one, after others that force, names a clause in conflict. They are refused as absent, or as slack,
-- exactly if one, after others that force, names no clause, or a clause that is neither in conflict nor forces; and as loose
-- exactly if all of them force.
abbrev pub HintsInWords : Type 0
HintsInWords =
    (V : ℕ) (clauses : ℕ → Option Clause) (m : Marks) (hints : List ℕ)
    → ((by_hints V clauses m hints ≡ Ok tt) ↔ Stops V clauses (InConflict V) m hints)
    × ((by_hints V clauses m hints ≡ Err refusal.Absent) ↔ Stops V clauses (λ m' o. o ≡ None) m hints)
    × ((by_hints V clauses m hints ≡ Err refusal.Slack) ↔ Stops V clauses (IsSlack V) m hints)
    × ((by_hints V clauses m hints ≡ Err refusal.Loose) ↔ AllForce V clauses m hints)
