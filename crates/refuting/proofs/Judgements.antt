-- A line and a strike are judged step by step.
use Rattle.std.proofs.Common.{◌≡◌, ℕ, Bool, true, false, cond, leb, List, is_some, Some, None, Ok, Err, Option, sym, refl, ap, ◌∙◌}
use Rattle.refusals.specs.declared.Refusal.TheVariants.{Buffer, Literal, Absent}
use Rattle.clauses.specs.Clauses.{Clause}
use Rattle.hints.specs.Hints.{Verdict, all_fit, checked, screened}
use Rattle.shelf.specs.Lines.{Lines, find, remove}
use Rattle.shelf.specs.Premises.{of_formula}
use Rattle.shelf.proofs.Lines.{remove_none}
use Rattle.refutations.proofs.Soundness.{sound}
use Rattle.refuting.specs.Claims.{Holds}
use Rattle.refuting.specs.Judging.{Terms, Progress, progress, check, judge_strike}

-- ---- a line

-- A line that the line check takes follows.
taken : (buffer fit : Bool) (v : Verdict) → Ok tt ≡ cond buffer (cond fit v (Err Literal)) (Err Buffer) → v ≡ Ok tt
taken true true v e = sym e
taken true false v e = cc
taken false fit v e = cc

pub taken_holds : (V marks : ℕ) (source clauses : ℕ → Option Clause) (ls : Clause) (hints : List ℕ) (r : Verdict) → source ≡ clauses
    → Ok tt ≡ cond (leb V marks) (screened V source ls hints) (Err Buffer) → Holds r clauses ls
taken_holds V marks source clauses ls hints r same e ok =
    sound V clauses ls hints
    (ap (λ c. checked V c ls hints) (sym same) ∙ taken (leb V marks) (all_fit V ls) (checked V source ls hints) e)

-- ---- a strike

module _ (t : Terms) (s : Progress) (n : ℕ) (left : Lines) (r : Verdict) (other : of_formula t.count n ≡ false) (after : left ≡ remove n s.lines) where
  struck : (o : Option Clause) → find s.lines n ≡ o → r ≡ cond (is_some o) (Ok tt) (Err Absent)
      → (r, progress s.last left) ≡ check (is_some o) Absent s (Ok tt, progress s.last (remove n s.lines))
  struck None e said = ap (λ v. (v, progress s.last left)) said ∙ ap (λ ls. (Err Absent, progress s.last ls)) (after ∙ remove_none n s.lines e)
  struck (Some c) e said = ap (λ v. (v, progress s.last left)) said ∙ ap (λ ls. (Ok tt, progress s.last ls)) after

  pub strikes : (source : ℕ → Option Clause) → source ≡ find s.lines → r ≡ cond (is_some (source n)) (Ok tt) (Err Absent)
      → (r, progress s.last left) ≡ judge_strike t s n
  strikes source same said =
      struck (find s.lines n) refl (said ∙ ap (λ f. cond (is_some (f n)) (Ok tt) (Err Absent)) same)
      ∙ sym (ap (λ b. cond b (Ok tt, s) (check (is_some (find s.lines n)) Absent s (Ok tt, progress s.last (remove n s.lines)))) other)
