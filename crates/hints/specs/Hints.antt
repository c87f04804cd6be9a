-- The hint rule: when a line of literals follows from the clauses that its hints name. This is unit propagation, clause by
-- clause in the order of the hints; nothing else says it.
use Rattle.std.specs.Prelude.{◌≡◌, ℕ, zero, suc, Bool, true, false, cond, not, ◌&&◌, List, [], ◌∷◌, ℤ, pos, negsuc, Some, None, Ok, Err, Option, Result, ◌==◌, nat_eq, nat_le, nat_lt}
use Rattle.std.specs.Map.{update}
use Rattle.refusals.specs.declared.Refusal.{Refusal}
use Rattle.refusals.specs.declared.Refusal.TheVariants as refusal
use Rattle.clauses.specs.Clauses.{Clause, variable}
use Rattle.hints.specs.declared.Reading.{Reading}
use Rattle.hints.specs.declared.Reading.TheVariants.{Conflict, Forced, Slack}

abbrev pub Verdict : Type 0
Verdict = Result (Unit {0}) Refusal

-- ---- what is known of the variables

-- A variable, by its number less one, is true, false, or unset.
abbrev pub Marks : Type 0
Marks = ℕ → Option Bool

abbrev pub unset : Marks
unset x = None

abbrev pub flipped : Option Bool → Option Bool
flipped None = None
flipped (Some b) = Some (not b)

-- the value of a literal; 0 is no literal
abbrev pub value : Marks → ℤ → Option Bool
value m (pos zero) = None
value m (pos (suc x)) = m x
value m (negsuc x) = flipped (m x)

-- the marks with a literal made true or false
abbrev pub assign : Marks → ℤ → Bool → Marks
assign m (pos zero) b = m
assign m (pos (suc x)) b = update nat_eq m x (Some b)
assign m (negsuc x) b = update nat_eq m x (Some (not b))

-- ---- a line

-- The literal is one of the variables 1 to V or its negative.
abbrev pub names : ℕ → ℤ → Bool
names V l = nat_lt 0 (variable l) && nat_le (variable l) V

-- The line's literals made false, one after the other; none where one is true already, since its negative stands before it.
abbrev pub unless_true : Option Bool → Option Marks → Option Marks
unless_true None next = next
unless_true (Some false) next = next
unless_true (Some true) next = None

abbrev pub falsified : Marks → Clause → Option Marks
falsified m [] = Some m
falsified m (l ∷ ls) = unless_true (value m l) (falsified (assign m l false) ls)

-- ---- a clause under the marks

abbrev pub same : ℤ → ℤ → Bool
same (pos m) (pos n) = m == n
same (pos m) (negsuc n) = false
same (negsuc m) (pos n) = false
same (negsuc m) (negsuc n) = m == n

-- One more literal that is unset.
abbrev pub one_more : Reading → ℤ → Reading
one_more Conflict l = Forced l
one_more (Forced k) l = cond (same k l) (Forced k) Slack
one_more Slack l = Slack

-- One more literal of the clause.
abbrev pub weighed : Reading → ℤ → Option Bool → Reading
weighed r l None = one_more r l
weighed r l (Some false) = r
weighed r l (Some true) = Slack

-- A literal that names none of the variables makes the clause slack.
abbrev pub joined : ℕ → Marks → Reading → ℤ → Reading
joined V m r l = cond (names V l) (weighed r l (value m l)) Slack

-- The clause is in conflict with the marks, all its literals being false; or it forces its one unset literal, the others being
-- false; or it is slack.
abbrev pub reading : ℕ → Marks → Reading → Clause → Reading
reading V m r [] = r
reading V m r (l ∷ ls) = reading V m (joined V m r l) ls

-- ---- the hints, in order

abbrev pub by_reading : Reading → Marks → (Marks → Verdict) → Verdict
by_reading Conflict m next = Ok tt
by_reading (Forced l) m next = next (assign m l true)
by_reading Slack m next = Err refusal.Slack

abbrev pub by_hint : ℕ → Option Clause → Marks → (Marks → Verdict) → Verdict
by_hint V None m next = Err refusal.Absent
by_hint V (Some c) m next = by_reading (reading V m Conflict c) m next

abbrev pub by_hints : ℕ → (ℕ → Option Clause) → Marks → List ℕ → Verdict
by_hints V clauses m [] = Err refusal.Loose
by_hints V clauses m (h ∷ hs) = by_hint V (clauses h) m (λ m'. by_hints V clauses m' hs)

-- ---- the line by its hints

-- A line with a literal and its negative follows with no hint read.
abbrev pub by_line : Option Marks → (Marks → Verdict) → Verdict
by_line None next = Ok tt
by_line (Some m) next = next m

abbrev pub checked : ℕ → (ℕ → Option Clause) → Clause → List ℕ → Verdict
checked V clauses line hints = by_line (falsified unset line) (λ m. by_hints V clauses m hints)

-- The line follows from the clauses, over the variables 1 to V, by these hints.
abbrev pub Follows : ℕ → (ℕ → Option Clause) → Clause → List ℕ → Type 0
Follows V clauses line hints = checked V clauses line hints ≡ Ok tt

-- ---- what a line may hold

-- one of the variables 1 to V or its negative, and never the lowest number of 32 bits
abbrev pub fits : ℕ → ℤ → Bool
fits V l = names V l && nat_le (variable l) 2147483647

abbrev pub all_fit : ℕ → Clause → Bool
all_fit V [] = true
all_fit V (l ∷ ls) = fits V l && all_fit V ls

-- The line if all its literals fit.
abbrev pub screened : ℕ → (ℕ → Option Clause) → Clause → List ℕ → Verdict
screened V clauses line hints = cond (all_fit V line) (checked V clauses line hints) (Err refusal.Literal)
