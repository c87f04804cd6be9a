-- The frames of a run as rows of values, and the first bad one.
use Rattle.std.proofs.Common.{◌≡◌, ℕ, zero, suc, ◌+◌, ◌<◌, ◌≤◌, Bool, cond, ◌≢◌, List, [], ◌∷◌, length, Some, None, Option, sym, refl, ap, ◌∙◌, subst, inl, inr, ⊎_elim, arith}
use lib.ListN.{length-replicate}
use Rattle.std.proofs.lemmas.List.{get_or-replicate}
use Rattle.std.proofs.lemmas.Bool.{cases_eq, cases_lt}
use Rattle.values.specs.Single.{single, is1}
use Rattle.values.specs.declared.single.Value.{Value}
use Rattle.values.specs.declared.single.Value.TheVariants.{Undefined, Zero, One}
use Rattle.values.specs.Singles.{single_lawful}
use Rattle.gates.specs.declared.gate.Gate.{Gate}
use Rattle.solutions.specs.Solutions.{reads}
use Rattle.solutions.specs.Runs.{Frame, Bad, BadAt, BadWithin}
use Rattle.solutions.specs.Claims.{Named}
use Rattle.solutions.proofs.Rounds.{rounds_end}
use Rattle.solutions.proofs.Frames.{given_row, next_frame, Good, not_bad_at}
use Rattle.induction.specs.Claims.{FirstBadAt}
use Rattle.runs.specs.Faults.{Defined, Fault, Faultless}
use Rattle.std.proofs.lemmas.Option.{none-some}
use Rattle.histories.specs.Shown.{frame_values, one_on, lowest_undefined, or_else, fault, by_fault, first_fault, first_bad}

module _ (gs : List Gate) (named : Named gs) (rows : List (List Bool)) where
  pub values_length : (k : ℕ) → length (frame_values gs rows k) ≡ length gs
  values_length zero = length-replicate (length gs) Zero
  values_length (suc k) = (rounds_end single single_lawful gs named (given_row gs rows k (reads single (frame_values gs rows k)))).size

  pub values_frame : (k : ℕ) → Frame gs rows k (reads single (frame_values gs rows k))
  values_frame zero = λ w l. get_or-replicate (length gs) w Zero Undefined l
  values_frame (suc k) = next_frame gs named rows k (reads single (frame_values gs rows k)) (frame_values gs rows (suc k)) (values_frame k) refl

-- ---- what is wrong with a frame

zero_not_undefined : Zero ≢ Undefined
zero_not_undefined e = let z : ◌≡◌ {A = ℕ} 0 1 = cc in omega arith

one_not_undefined : One ≢ Undefined
one_not_undefined e = let z : ◌≡◌ {A = ℕ} 0 1 = cc in omega arith

one_on_none : (o : Option ℕ) → one_on o ≡ None → o ≡ None
one_on_none None e = refl
one_on_none (Some w) e = absurd (none-some (suc w) (sym e))

defined_next : (x : Value) (xs : List Value) (n : ℕ) → x ≢ Undefined → Defined n (reads single xs) → Defined (suc n) (reads single (x ∷ xs))
defined_next x xs n h later zero l = h
defined_next x xs n h later (suc w) l = later w (omega arith)

none_undefined : (xs : List Value) → lowest_undefined xs ≡ None → Defined (length xs) (reads single xs)
none_undefined [] e = λ w l. absurd (omega arith)
none_undefined (Undefined ∷ xs) e = absurd (none-some 0 (sym e))
none_undefined (Zero ∷ xs) e = defined_next Zero xs (length xs) zero_not_undefined (none_undefined xs (one_on_none (lowest_undefined xs) e))
none_undefined (One ∷ xs) e = defined_next One xs (length xs) one_not_undefined (none_undefined xs (one_on_none (lowest_undefined xs) e))

abbrev Lowest : List Value → ℕ → Type 0
Lowest xs w = (w < length xs) × (reads single xs w ≡ Undefined) × Defined w (reads single xs)

lowest_next : (x : Value) (xs : List Value) (w : ℕ) → x ≢ Undefined → (o : Option ℕ) → ((j : ℕ) → o ≡ Some j → Lowest xs j) → one_on o ≡ Some w → Lowest (x ∷ xs) w
lowest_next x xs w h None later e = absurd (none-some w e)
lowest_next x xs w h (Some k) later e =
    let same : suc k ≡ w = cc in
    let u = later k refl in
    subst (Lowest (x ∷ xs)) same (omega (arith, u.0), u.1, defined_next x xs k h u.2)

some_undefined : (xs : List Value) (w : ℕ) → lowest_undefined xs ≡ Some w → Lowest xs w
some_undefined [] w e = absurd (none-some w e)
some_undefined (Undefined ∷ xs) w e = let same : 0 ≡ w = cc in subst (Lowest (Undefined ∷ xs)) same (omega arith, refl, λ j l. absurd (omega arith))
some_undefined (Zero ∷ xs) w e = lowest_next Zero xs w zero_not_undefined (lowest_undefined xs) (λ j. some_undefined xs j) e
some_undefined (One ∷ xs) w e = lowest_next One xs w one_not_undefined (lowest_undefined xs) (λ j. some_undefined xs j) e

one_known : (x : Value) (p : ℕ) → ◌≡◌ {A = Option ℕ} (cond (is1 x) None (Some p)) None → x ≡ One
one_known Undefined p e = absurd (none-some p (sym e))
one_known Zero p e = absurd (none-some p (sym e))
one_known One p e = refl

not_one : (x : Value) (p w : ℕ) → cond (is1 x) None (Some p) ≡ Some w → (w ≡ p) × (x ≢ One)
not_one Undefined p w e = let h : p ≡ w = cc in (sym h, λ q. let z : ◌≡◌ {A = ℕ} 0 1 = cc q in omega arith)
not_one Zero p w e = let h : p ≡ w = cc in (sym h, λ q. let z : ◌≡◌ {A = ℕ} 0 1 = cc q in omega arith)
not_one One p w e = absurd (none-some w e)

pub fault_none : (p : ℕ) (row : List Value) → fault p row ≡ None → Faultless (length row) p (reads single row)
fault_none p row e = go (lowest_undefined row) refl e
  where
    go : (o : Option ℕ) → lowest_undefined row ≡ o → or_else o (cond (is1 (reads single row p)) None (Some p)) ≡ None → Faultless (length row) p (reads single row)
    go None q h = (none_undefined row q, one_known (reads single row p) p h)
    go (Some w) q h = absurd (none-some w (sym h))

pub fault_some : (p : ℕ) (row : List Value) (w : ℕ) → fault p row ≡ Some w → Fault (length row) p (reads single row) w
fault_some p row w e = go (lowest_undefined row) refl e
  where
    go : (o : Option ℕ) → lowest_undefined row ≡ o → or_else o (cond (is1 (reads single row p)) None (Some p)) ≡ Some w → Fault (length row) p (reads single row) w
    go None q h = let r = not_one (reads single row p) p w h in inr (none_undefined row q, r.1, r.0)
    go (Some j) q h = inl (some_undefined row w (q ∙ h))

fault_bad : (gs : List Gate) (p : ℕ) (f : ℕ → Value) (w : ℕ) → Fault (length gs) p f w → Bad gs p f
fault_bad gs p f w (inl u) = inl (w, u.0, u.1)
fault_bad gs p f w (inr u) = inr u.1

-- ---- the first frame with a fault

abbrev Found : (ℕ → Option ℕ) → ℕ → ℕ → ℕ × ℕ → Type 0
Found test k left r = (k < r.0) × (r.0 ≤ k + left) × (test r.0 ≡ Some r.1) × ((j : ℕ) → k < j → j < r.0 → test j ≡ None)

first_found : (test : ℕ → Option ℕ) (left k j : ℕ) → k < j → j ≤ k + left → test j ≢ None → Found test k left (first_fault test k left)
first_found test zero k j a b h = absurd (omega arith)
first_found test (suc left) k j a b h = go (test (suc k)) refl (λ l. first_found test left (suc k) j l (omega arith) h)
  where
    past : test (suc k) ≡ None → suc k < j
    past e = ⊎_elim (λ q. absurd (h (ap test q ∙ e))) (λ q. omega (arith, a, other q)) (cases_eq j (suc k))
      where
        other : (j ≡ suc k → ⊥) → suc k < j
        other q = ⊎_elim (λ s. s) (λ s. absurd (q (omega arith))) (cases_lt (suc k) j)

    before : (r : ℕ × ℕ) → test (suc k) ≡ None → ((n : ℕ) → suc k < n → n < r.0 → test n ≡ None) → (n : ℕ) → k < n → n < r.0 → test n ≡ None
    before r e later n l m = ⊎_elim (λ q. later n q m) (λ q. let same : n ≡ suc k = omega arith in ap test same ∙ e) (cases_lt (suc k) n)

    go : (o : Option ℕ) → test (suc k) ≡ o → (suc k < j → Found test (suc k) left (first_fault test (suc k) left))
        → Found test k (suc left) (by_fault o k (first_fault test (suc k) left))
    go (Some w) e later = (omega arith, omega arith, e, λ n l m. absurd (omega arith))
    go None e later =
        let r = later (past e) in
        (omega (arith, r.0), omega (arith, r.1), r.2, before (first_fault test (suc k) left) e r.3)

-- ---- the first bad frame of a run

module _ (gs : List Gate) (named : Named gs) (p d : ℕ) (within : p < length gs) (rows : List (List Bool)) (long : length rows ≡ d) where
  good : (k : ℕ) → fault p (frame_values gs rows k) ≡ None → Good gs p (reads single (frame_values gs rows k))
  good k e =
      let g = fault_none p (frame_values gs rows k) e in
      (subst (λ n. Defined n (reads single (frame_values gs rows k))) (values_length gs named rows k) g.0, g.1)

  pub faulty : (k w : ℕ) → fault p (frame_values gs rows k) ≡ Some w → Fault (length gs) p (reads single (frame_values gs rows k)) w
  faulty k w e = subst (λ n. Fault n p (reads single (frame_values gs rows k)) w) (values_length gs named rows k) (fault_some p (frame_values gs rows k) w e)

  pub not_bad : (k : ℕ) → fault p (frame_values gs rows k) ≡ None → BadAt gs p rows k → ⊥
  not_bad k e = not_bad_at gs p within named rows k (reads single (frame_values gs rows k)) (values_frame gs named rows k) (good k e)

  pub first_is_bad : BadWithin gs p d rows
      → FirstBadAt gs p rows (first_bad gs p d rows).0
      × ((f : ℕ → Value) × Frame gs rows (first_bad gs p d rows).0 f × Fault (length gs) p f (first_bad gs p d rows).1)
  first_is_bad b =
      let r = first_bad gs p d rows in
      let found = first_found (λ k. fault p (frame_values gs rows k)) d 0 b.0 b.2.0 (omega (arith, b.1)) (λ e. not_bad b.0 e b.2) in
      let f = reads single (frame_values gs rows r.0) in
      let is = values_frame gs named rows r.0 in
      let wrong = faulty r.0 r.1 found.2 in (
        ((found.0, omega (arith, found.1, long), (f, is, fault_bad gs p f r.1 wrong)), λ j l h. not_bad j (found.3 j h.0 l) h),
        (f, is, wrong),
      )
