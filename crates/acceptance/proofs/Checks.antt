-- The tests of a line and of a strike, and what passing them means.
use Rattle.std.proofs.Common.{◌≡◌, ℕ, ◌≤◌, Bool, true, false, cond, ◌&&◌, ltb, leb, ◌⊎◌, List, [], ◌∷◌, ℤ, is_some, Some, None, Ok, Err, Option, sym, refl, ap, ◌∙◌, inl, inr}
use Rattle.std.specs.List.{AllByRecursion as AllOf}
use Rattle.std.proofs.lemmas.Bool.{both_ways, and_parts, and_from, ltb-true, leb-true, lt-ltb, le-leb}
use Rattle.refusals.specs.declared.Refusal.{Refusal}
use Rattle.refusals.specs.declared.Refusal.TheVariants.{Buffer, Number, Literal, Space, Absent}
use Rattle.clauses.specs.Clauses.{Clause, variable}
use Rattle.hints.specs.Hints.{Verdict, names, fits, all_fit, checked}
use Rattle.refutations.specs.Refuting.{line, strike, Within, Fits}
use Rattle.refutations.proofs.Within.{names_within, within_names}
use Rattle.refuting.specs.Judging.{Terms, Progress, progress, known, Judged, check, go_on, take_line, judge_line, judge_strike}
use Rattle.shelf.specs.Lines.{find, insert, remove, keeps}
use Rattle.shelf.specs.Premises.{of_formula}
use Rattle.acceptance.specs.Claims.{RefusalsChangeNothing}

pub not_both : {A : Type 0} (e : Refusal) → ◌≡◌ {A = Verdict} (Ok tt) (Err e) → A
not_both e q = cc

-- ---- one test

pub passed : (b : Bool) (e : Refusal) (s : Progress) (next : Judged) → b ≡ true → check b e s next ≡ next
passed true e s next q = refl
passed false e s next q = absurd (both_ways false refl q)

pub accepted : (b : Bool) (e : Refusal) (s : Progress) (next : Judged) → (check b e s next).0 ≡ Ok tt → (b ≡ true) × (next.0 ≡ Ok tt)
accepted true e s next q = (refl, q)
accepted false e s next q = not_both e (sym q)

go_on_accepted : (a : Verdict) (s : Progress) (next : Judged) → (go_on a s next).0 ≡ Ok tt → (a ≡ Ok tt) × (next.0 ≡ Ok tt)
go_on_accepted (Ok x) s next q = (refl, q)
go_on_accepted (Err e) s next q = not_both e (sym q)

-- where the answer is a refusal, nothing has changed
abbrev Unchanged : Progress → Judged → Type 0
Unchanged s r = (e : Refusal) → r.0 ≡ Err e → r.1 ≡ s

check_unchanged : (b : Bool) (e : Refusal) (s : Progress) (next : Judged) → Unchanged s next → Unchanged s (check b e s next)
check_unchanged true e s next h = h
check_unchanged false e s next h = λ x q. refl

go_on_unchanged : (a : Verdict) (s : Progress) (next : Judged) → Unchanged s next → Unchanged s (go_on a s next)
go_on_unchanged (Ok x) s next h = h
go_on_unchanged (Err e) s next h = λ x q. refl

cond_unchanged : (b : Bool) (s : Progress) (r next : Judged) → Unchanged s r → Unchanged s next → Unchanged s (cond b r next)
cond_unchanged true s r next p q = p
cond_unchanged false s r next p q = q

-- ---- the literals of a line

abbrev pub Small : ℤ → Type 0
Small l = variable l ≤ 2147483647

pub all_fit_true : (V : ℕ) (ls : Clause) → AllOf (Within V) ls → AllOf Small ls → all_fit V ls ≡ true
all_fit_true V [] within small = refl
all_fit_true V (l ∷ ls) within small =
    and_from (fits V l) (all_fit V ls)
    (and_from (names V l) (leb (variable l) 2147483647) (within_names V l within.0) (le-leb (variable l) 2147483647 small.0))
    (all_fit_true V ls within.1 small.1)

pub all_fit_parts : (V : ℕ) (ls : Clause) → all_fit V ls ≡ true → AllOf (Within V) ls × AllOf Small ls
all_fit_parts V [] e = (tt, tt)
all_fit_parts V (l ∷ ls) e =
    let parts = and_parts (fits V l) (all_fit V ls) e in
    let here = and_parts (names V l) (leb (variable l) 2147483647) parts.0 in
    let later = all_fit_parts V ls parts.1 in
    ((names_within V l here.0, later.0), (leb-true (variable l) 2147483647 here.1, later.1))

-- ---- a line

take_unchanged : (t : Terms) (s : Progress) (n : ℕ) (ls : Clause) → Unchanged s (take_line t s n ls)
take_unchanged t s n [] = λ e q. not_both e q
take_unchanged t s n (l ∷ ls) =
    check_unchanged (keeps t.capacity t.cost s.lines n (l ∷ ls)) Space s (Ok tt, progress n (insert n (l ∷ ls) s.lines)) (λ e q. not_both e q)

module _ (t : Terms) (s : Progress) (marks n : ℕ) (ls : Clause) (hints : List ℕ) where
  abbrev by_hints : Judged
  by_hints = go_on (checked t.variables (known t s.lines) ls hints) s (take_line t s n ls)

  abbrev by_literals : Judged
  by_literals = check (all_fit t.variables ls) Literal s by_hints

  abbrev by_number : Judged
  by_number = check (ltb s.last n && leb n 2147483647) Number s by_literals

  -- a line that fits gets as far as being kept
  pub line_taken : Fits t.variables (known t s.lines) s.last n ls hints → t.variables ≤ marks → n ≤ 2147483647 → AllOf Small ls
      → judge_line t s marks n ls hints ≡ take_line t s n ls
  line_taken fit lent low small =
      passed (leb t.variables marks) Buffer s by_number (le-leb t.variables marks lent)
      ∙ passed (ltb s.last n && leb n 2147483647) Number s by_literals
      (and_from (ltb s.last n) (leb n 2147483647) (lt-ltb s.last n fit.0) (le-leb n 2147483647 low))
      ∙ passed (all_fit t.variables ls) Literal s by_hints (all_fit_true t.variables ls fit.1 small)
      ∙ ap (λ a. go_on a s (take_line t s n ls)) fit.2

  -- a line that is accepted fits
  pub line_accepted : (judge_line t s marks n ls hints).0 ≡ Ok tt
      → Fits t.variables (known t s.lines) s.last n ls hints
      × (t.variables ≤ marks) × (n ≤ 2147483647) × AllOf Small ls × ((take_line t s n ls).0 ≡ Ok tt)
  line_accepted e =
      let a = accepted (leb t.variables marks) Buffer s by_number e in
      let b = accepted (ltb s.last n && leb n 2147483647) Number s by_literals a.1 in
      let c = accepted (all_fit t.variables ls) Literal s by_hints b.1 in
      let d = go_on_accepted (checked t.variables (known t s.lines) ls hints) s (take_line t s n ls) c.1 in
      let number = and_parts (ltb s.last n) (leb n 2147483647) b.0 in
      let literals = all_fit_parts t.variables ls c.0 in
      ((ltb-true s.last n number.0, literals.0, d.0), leb-true t.variables marks a.0, leb-true n 2147483647 number.1, literals.1, d.1)

  line_unchanged : Unchanged s (judge_line t s marks n ls hints)
  line_unchanged =
      check_unchanged (leb t.variables marks) Buffer s by_number
      (check_unchanged (ltb s.last n && leb n 2147483647) Number s by_literals
      (check_unchanged (all_fit t.variables ls) Literal s by_hints
      (go_on_unchanged (checked t.variables (known t s.lines) ls hints) s (take_line t s n ls) (take_unchanged t s n ls))))

-- ---- a strike

module _ (t : Terms) (s : Progress) (n : ℕ) where
  abbrev struck : Judged
  struck = (Ok tt, progress s.last (remove n s.lines))

  pub line_struck : of_formula t.count n ≡ false → is_some (find s.lines n) ≡ true → judge_strike t s n ≡ struck
  line_struck past there =
      ap (λ b. cond b (Ok tt, s) (check (is_some (find s.lines n)) Absent s struck)) past
      ∙ passed (is_some (find s.lines n)) Absent s struck there

  pub line_there : of_formula t.count n ≡ false → (judge_strike t s n).0 ≡ Ok tt → is_some (find s.lines n) ≡ true
  line_there past e =
      let rest = check (is_some (find s.lines n)) Absent s struck in
      (accepted (is_some (find s.lines n)) Absent s struck (sym (ap (λ b. (cond b (Ok tt, s) rest).0) past) ∙ e)).0

  some_of : (o : Option Clause) → is_some o ≡ true → (c : Clause) × (o ≡ Some c)
  some_of None e = absurd (both_ways false refl e)
  some_of (Some c) e = (c, refl)

  -- a strike that is accepted changes nothing, or strikes a line
  pub strike_accepted : (judge_strike t s n).0 ≡ Ok tt
      → ((judge_strike t s n).1 ≡ s) ⊎ ((c : Clause) × (find s.lines n ≡ Some c) × ((judge_strike t s n).1 ≡ struck.1))
  strike_accepted e = go (of_formula t.count n) e
    where
      rest : Judged
      rest = check (is_some (find s.lines n)) Absent s struck

      go : (b : Bool) → (cond b (Ok tt, s) rest).0 ≡ Ok tt
          → ((cond b (Ok tt, s) rest).1 ≡ s) ⊎ ((c : Clause) × (find s.lines n ≡ Some c) × ((cond b (Ok tt, s) rest).1 ≡ struck.1))
      go true q = inl refl
      go false q =
          let a = accepted (is_some (find s.lines n)) Absent s struck q in
          let c = some_of (find s.lines n) a.0 in
          inr (c.0, c.1, ap (λ r. r.1) (passed (is_some (find s.lines n)) Absent s struck a.0))

  strike_unchanged : Unchanged s (judge_strike t s n)
  strike_unchanged =
      cond_unchanged (of_formula t.count n) s (Ok tt, s) (check (is_some (find s.lines n)) Absent s struck) (λ e q. not_both e q)
      (check_unchanged (is_some (find s.lines n)) Absent s struck (λ e q. not_both e q))

pub refusals_change_nothing : RefusalsChangeNothing
refusals_change_nothing t s marks (line n ls hints) e q = line_unchanged t s marks n ls hints e q
refusals_change_nothing t s marks (strike n) e q = strike_unchanged t s n e q
