-- A line's literals are made false one by one, and its hints are taken one by one.
use Rattle.std.proofs.Common.{◌≡◌, ℕ, ◌+◌, ◌<◌, Bool, true, false, ◌&&◌, List, length, get_or, drop, ℤ, pos, Some, None, Err, Option, sym, refl, ap, ◌∙◌}
use Rattle.std.proofs.lemmas.List.{at_drop_more}
use Rattle.std.specs.Option.{option_map}
use Rattle.refusals.specs.declared.Refusal.TheVariants as refusal
use Rattle.clauses.specs.Clauses.{Clause}
use Rattle.hints.specs.Hints.{Marks, Verdict, value, assign, unless_true, falsified, fits, all_fit, reading, by_reading, by_hint, by_hints}
use Rattle.hints.specs.declared.Reading.{Reading}
use Rattle.hints.specs.declared.Reading.TheVariants.{Conflict, Forced}

-- what a clause's reading tells, if there is a clause
abbrev told : Option Reading → Marks → (Marks → Verdict) → Verdict
told None m next = Err refusal.Absent
told (Some r) m next = by_reading r m next

by_hint_told : (V : ℕ) (o : Option Clause) (m : Marks) (next : Marks → Verdict) → by_hint V o m next ≡ told (option_map (reading V m Conflict) o) m next
by_hint_told V None m next = refl
by_hint_told V (Some c) m next = refl

module _ (V : ℕ) (clauses : ℕ → Option Clause) (m : Marks) (hs : List ℕ) (i : ℕ) where
  -- one more hint
  turn : (r : Option Reading) → i < length hs → r ≡ option_map (reading V m Conflict) (clauses (get_or hs i 0))
      → by_hints V clauses m (drop i hs) ≡ told r m (λ k. by_hints V clauses k (drop (i + 1) hs))
  turn r h e =
      at_drop_more (by_hints V clauses m) hs i 0 h
      ∙ by_hint_told V (clauses (get_or hs i 0)) m (λ k. by_hints V clauses k (drop (i + 1) hs))
      ∙ ap (λ x. told x m (λ k. by_hints V clauses k (drop (i + 1) hs))) (sym e)

  pub hint_forced : (l : ℤ) → i < length hs → Some (Forced l) ≡ option_map (reading V m Conflict) (clauses (get_or hs i 0))
      → by_hints V clauses m (drop i hs) ≡ by_hints V clauses (assign m l true) (drop (i + 1) hs)
  hint_forced l = turn (Some (Forced l))

module _ (V : ℕ) (ls : Clause) (i : ℕ) where
  pub fit_turn : i < length ls → all_fit V (drop i ls) ≡ (fits V (get_or ls i (pos 0)) && all_fit V (drop (i + 1) ls))
  fit_turn h = at_drop_more (all_fit V) ls i (pos 0) h

unless_next : (v : Option Bool) (m k : Marks) (ls : Clause) → unless_true v (Some m) ≡ Some k → unless_true v (falsified m ls) ≡ falsified k ls
unless_next None m k ls e = let same : m ≡ k = cc in ap (λ x. falsified x ls) same
unless_next (Some false) m k ls e = let same : m ≡ k = cc in ap (λ x. falsified x ls) same
unless_next (Some true) m k ls e = cc

module _ (m : Marks) (ls : Clause) (i : ℕ) where
  -- one more literal of the line
  pub false_turn : (k : Marks) → i < length ls → unless_true (value m (get_or ls i (pos 0))) (Some (assign m (get_or ls i (pos 0)) false)) ≡ Some k
      → falsified m (drop i ls) ≡ falsified k (drop (i + 1) ls)
  false_turn k h e = at_drop_more (falsified m) ls i (pos 0) h ∙ unless_next (value m (get_or ls i (pos 0))) (assign m (get_or ls i (pos 0)) false) k (drop (i + 1) ls) e
