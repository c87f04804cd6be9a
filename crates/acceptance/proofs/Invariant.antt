-- What holds of the lines kept, whatever is judged.
use Rattle.std.proofs.Common.{◌≡◌, ℕ, ◌+◌, ◌<◌, ◌≤◌, Bool, true, false, cond, ◌≢◌, ◌⊎◌, List, [], ◌∷◌, length, ℤ, is_some, Some, Ok, Err, Option, unwrap_or, sym, refl, ap, ◌∙◌, subst, inl, inr, le_refl, arith}
use Rattle.std.specs.List.{AllByRecursion as AllOf}
use Rattle.std.proofs.ByRecursion.{All-weaker}
use Rattle.refusals.specs.declared.Refusal.TheVariants.{Space}
use Rattle.clauses.specs.Clauses.{Clause, Valuation, some_true, Satisfies, numbered}
use Rattle.hints.specs.Hints.{Verdict}
use Rattle.refutations.specs.Claims.{Models, Unsatisfiable}
use Rattle.refutations.specs.Refuting.{Item, line, strike, Within, Fits}
use Rattle.refutations.proofs.Soundness.{sound}
use Rattle.refutations.proofs.Listed.{empty_false, formula_models}
use Rattle.refuting.specs.Judging.{Terms, Progress, progress, known, Judged, take_line, judge_strike}
use Rattle.shelf.specs.Lines.{Lines, Costs, find, insert, remove, total, keeps}
use Rattle.shelf.specs.Premises.{of_formula}
use Rattle.shelf.proofs.Lines.{rising_insert, rising_remove, total_remove}
use Rattle.acceptance.specs.Judged.{judge_item, judge_items, Offers, terms_of, start, EmptyAccepted}
use Rattle.acceptance.specs.Claims.{StrikeFrees, Kept, KeptAtStart, KeptStays, KeptLinesFollow}
use Rattle.acceptance.proofs.Checks.{passed, accepted, line_taken, line_accepted, line_struck, strike_accepted, refusals_change_nothing}
use Rattle.acceptance.proofs.Shelving.{all_insert, all_remove, found, keeps_parts}

some_is : (o : Option Clause) (c : Clause) → o ≡ Some c → is_some o ≡ true
some_is o c e = ap is_some e

pub strike_frees : StrikeFrees
strike_frees t s rising n c past e =
    let struck = line_struck t s n past (some_is (find s.lines n) c e) in
    (ap (λ r. r.0) struck, ap (λ r. unwrap_or (t.cost (length c)) 0 + total t.cost r.1.lines) struck ∙ total_remove t.cost n c s.lines rising e)

cons_not_empty : (l : ℤ) (ls : Clause) → l ∷ ls ≢ []
cons_not_empty l ls e = cc

module _ (V : ℕ) (F : List Clause) (capacity : ℕ) (cost : Costs) where
  abbrev t : Terms
  t = terms_of V F capacity cost

  abbrev Sure : Progress → Type 0
  Sure s = Kept V F capacity cost s

  known_holds : (v : Valuation) → Satisfies v F → (xs : Lines) → AllOf (λ x. some_true v x.1 ≡ true) xs → Models v (known t xs)
  known_holds v satisfies xs all k c e = go (of_formula (length F) k) e
    where
      go : (b : Bool) → cond b (numbered F k) (find xs k) ≡ Some c → some_true v c ≡ true
      go true q = formula_models v F satisfies k c q
      go false q = found (λ d. some_true v d ≡ true) xs all k c q

  at_start : Sure (start F)
  at_start = record {
    lines_follow = λ v satisfies. tt;
    known_follow = λ v satisfies. known_holds v satisfies [] tt;
    rising = tt;
    numbers = tt;
    last = le_refl (length F);
    not_empty = tt;
    literals = tt;
    costs = omega arith;
  }

  module _ (s : Progress) (sure : Sure s) where
    -- a line that follows holds
    line_holds : (n : ℕ) (ls : Clause) (hints : List ℕ) → Fits V (known t s.lines) s.last n ls hints
        → (v : Valuation) → Satisfies v F → some_true v ls ≡ true
    line_holds n ls hints fit v satisfies = sound V (known t s.lines) ls hints fit.2 v (sure.known_follow v satisfies)

    renumbered : (n : ℕ) → s.last < n → AllOf (λ x. (length F < x.0) × (x.0 ≤ n)) s.lines
    renumbered n h =
        All-weaker (λ x. (length F < x.0) × (x.0 ≤ s.last)) (λ x. (length F < x.0) × (x.0 ≤ n)) (λ x q. (q.0, omega (arith, q.1))) s.lines
        sure.numbers

    -- the empty line
    with_empty : (n : ℕ) → s.last < n → Sure (progress n s.lines)
    with_empty n h = record {
      lines_follow = sure.lines_follow;
      known_follow = sure.known_follow;
      rising = sure.rising;
      numbers = renumbered n h;
      last = omega (arith, sure.last);
      not_empty = sure.not_empty;
      literals = sure.literals;
      costs = sure.costs;
    }

    with_line : (n : ℕ) (l : ℤ) (ls : Clause) (hints : List ℕ) → Fits V (known t s.lines) s.last n (l ∷ ls) hints
        → keeps capacity cost s.lines n (l ∷ ls) ≡ true → Sure (progress n (insert n (l ∷ ls) s.lines))
    with_line n l ls hints fit kept =
        let c : Clause = l ∷ ls in
        let parts = keeps_parts capacity cost s.lines n c kept in
        let follow : (v : Valuation) → Satisfies v F → AllOf (λ x. some_true v x.1 ≡ true) (insert n c s.lines) =
        λ v satisfies. all_insert (λ x. some_true v x.1 ≡ true) n c s.lines (line_holds n c hints fit v satisfies) (sure.lines_follow v satisfies) in
        record {
          lines_follow = follow;
          known_follow = λ v satisfies. known_holds v satisfies (insert n c s.lines) (follow v satisfies);
          rising = rising_insert n c s.lines parts.0 sure.rising;
          numbers =
              all_insert (λ x. (length F < x.0) × (x.0 ≤ n)) n c s.lines (omega (arith, fit.0, sure.last), le_refl n) (renumbered n fit.0);
          last = omega (arith, fit.0, sure.last);
          not_empty = all_insert (λ x. x.1 ≢ []) n c s.lines (cons_not_empty l ls) sure.not_empty;
          literals = all_insert (λ x. AllOf (Within V) x.1) n c s.lines fit.1 sure.literals;
          costs = parts.2;
        }

    without : (n : ℕ) (c : Clause) → find s.lines n ≡ Some c → Sure (progress s.last (remove n s.lines))
    without n c e =
        let follow : (v : Valuation) → Satisfies v F → AllOf (λ x. some_true v x.1 ≡ true) (remove n s.lines) =
        λ v satisfies. all_remove (λ x. some_true v x.1 ≡ true) n s.lines (sure.lines_follow v satisfies) in
        record {
          lines_follow = follow;
          known_follow = λ v satisfies. known_holds v satisfies (remove n s.lines) (follow v satisfies);
          rising = rising_remove n s.lines sure.rising;
          numbers = all_remove (λ x. (length F < x.0) × (x.0 ≤ s.last)) n s.lines sure.numbers;
          last = sure.last;
          not_empty = all_remove (λ x. x.1 ≢ []) n s.lines sure.not_empty;
          literals = all_remove (λ x. AllOf (Within V) x.1) n s.lines sure.literals;
          costs = omega (arith, total_remove cost n c s.lines sure.rising e, sure.costs);
        }

    -- ---- one item

    taken : (n : ℕ) (ls : Clause) (hints : List ℕ) → Fits V (known t s.lines) s.last n ls hints → (take_line t s n ls).0 ≡ Ok tt
        → Sure (take_line t s n ls).1
    taken n [] hints fit e = with_empty n fit.0
    taken n (l ∷ ls) hints fit e =
        let next : Judged = (Ok tt, progress n (insert n (l ∷ ls) s.lines)) in
        let kept = (accepted (keeps capacity cost s.lines n (l ∷ ls)) Space s next e).0 in
        subst (λ r. Sure r.1) (sym (passed (keeps capacity cost s.lines n (l ∷ ls)) Space s next kept)) (with_line n l ls hints fit kept)

    item_accepted : (marks : ℕ) (item : Item) → (judge_item t s marks item).0 ≡ Ok tt → Sure (judge_item t s marks item).1
    item_accepted marks (line n ls hints) e =
        let f = line_accepted t s marks n ls hints e in
        subst (λ r. Sure r.1) (sym (line_taken t s marks n ls hints f.0 f.1 f.2 f.3)) (taken n ls hints f.0 f.4)
    item_accepted marks (strike n) e = go (strike_accepted t s n e)
      where
        go : ((judge_strike t s n).1 ≡ s)
            ⊎ ((c : Clause) × (find s.lines n ≡ Some c) × ((judge_strike t s n).1 ≡ progress s.last (remove n s.lines)))
            → Sure (judge_strike t s n).1
        go (inl q) = subst Sure (sym q) sure
        go (inr (c, there, q)) = subst Sure (sym q) (without n c there)

    item_judged : (marks : ℕ) (item : Item) → Sure (judge_item t s marks item).1
    item_judged marks item = go (judge_item t s marks item).0 refl
      where
        go : (a : Verdict) → (judge_item t s marks item).0 ≡ a → Sure (judge_item t s marks item).1
        go (Ok x) q = item_accepted marks item q
        go (Err e) q = subst Sure (sym (refusals_change_nothing t s marks item e q)) sure

    empty_refutes : (marks : ℕ) (item : Item) (n : ℕ) (hints : List ℕ) → item ≡ line n [] hints → (judge_item t s marks item).0 ≡ Ok tt
        → Unsatisfiable F
    empty_refutes marks item n hints is e v satisfies =
        let fit = (line_accepted t s marks n [] hints (subst (λ x. (judge_item t s marks x).0 ≡ Ok tt) is e)).0 in
        empty_false v (line_holds n [] hints fit v satisfies)

  -- ---- a list of items

  items_judged : (offers : Offers) (s : Progress) → Sure s → Sure (judge_items t s offers).1
  items_judged [] s sure = sure
  items_judged (x ∷ xs) s sure = items_judged xs (judge_item t s x.0 x.1).1 (item_judged s sure x.0 x.1)

  some_empty : (offers : Offers) (s : Progress) → Sure s → EmptyAccepted offers (judge_items t s offers).0 → Unsatisfiable F
  some_empty [] s sure e = absurd e
  some_empty (x ∷ xs) s sure e = go e (some_empty xs (judge_item t s x.0 x.1).1 (item_judged s sure x.0 x.1))
    where
      rest : List Verdict
      rest = (judge_items t (judge_item t s x.0 x.1).1 xs).0

      go : ((n : ℕ) × (hints : List ℕ) × (x.1 ≡ line n [] hints) × ((judge_item t s x.0 x.1).0 ≡ Ok tt)) ⊎ EmptyAccepted xs rest
          → (EmptyAccepted xs rest → Unsatisfiable F) → Unsatisfiable F
      go (inl (n, hints, is, a)) later = empty_refutes s sure x.0 x.1 n hints is a
      go (inr r) later = later r

pub kept_at_start : KeptAtStart
kept_at_start = at_start

pub kept_stays : KeptStays
kept_stays V F capacity cost s sure marks item =
    (item_judged V F capacity cost s sure marks item, empty_refutes V F capacity cost s sure marks item)

pub kept_lines_follow : KeptLinesFollow
kept_lines_follow V F capacity cost offers =
    let sure = at_start V F capacity cost in
    (items_judged V F capacity cost offers (start F) sure, some_empty V F capacity cost offers (start F) sure)
