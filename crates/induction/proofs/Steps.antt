-- Frames in a row, good ones and then a bad one, with no state repeated, satisfy the step formula.
use Rattle.std.proofs.Common.{◌≡◌, ℕ, zero, suc, ◌+◌, ◌-◌, ◌*◌, ◌/◌, ◌%◌, ◌<◌, ◌≤◌, Bool, true, false, cond, not, ◌||◌, ltb, ◌≢◌, ◌⊎◌, List, [], ◌∷◌, ◌++◌, map, length, get_or, sym, ap, ◌∙◌, ap₂, ⊎_elim, arith, rules}
use Rattle.std.specs.List.{AllByRecursion as AllOf}
use Rattle.std.proofs.lemmas.Nat.{div-mul-add, mod-mul-add}
use Rattle.std.proofs.ByRecursion.{All-append}
use Rattle.std.proofs.lemmas.Bool.{lt-ltb, le-ltb, cond-true, cond-false}
use Rattle.values.specs.Sides.{rail1}
use Rattle.values.specs.Single.{is0, is1, single}
use Rattle.values.specs.declared.single.Value.{Value}
use Rattle.values.specs.declared.single.Value.TheVariants.{Undefined}
use Rattle.gates.specs.declared.gate.Gate.{Gate}
use Rattle.gates.specs.Gates.{is_register, rank}
use Rattle.gates.proofs.Counting.{rank_up}
use Rattle.clauses.specs.Clauses.{Clause, Valuation, Satisfies, across, plus, minus}
use Rattle.clauses.proofs.Across.{all_across}
use Rattle.formulas.specs.Drives.{Drive, driver}
use Rattle.formulas.specs.Formulas.{rail_var, step_mark, register_count, pairs_before, difference_mark, defined, frame_clauses, mark_clauses, step_frames, good_frame, step_good, step_bad, on_register, differs, pair_clauses, step_pairs, step}
use Rattle.formulas.proofs.Uses.{DrivesBelow}
use Rattle.solutions.specs.Solutions.{gate_at, wanted, supplied, given, Least}
use Rattle.solutions.specs.Runs.{bit, input_count, Bad}
use Rattle.solutions.specs.Claims.{Named}
use Rattle.solutions.proofs.Frames.{Good}
use Rattle.induction.specs.Readings.{Shows, ShowsBefore}
use Rattle.induction.specs.Claims.{Obeys}
use Rattle.induction.proofs.Parts.{True, some_left, some_right, some_across}
use Rattle.induction.proofs.Values.{passed_same, Read, read}
use Rattle.induction.proofs.Encoding.{defines, frame_encodes}
use Rattle.induction.proofs.Ranked.{listed, listed_at}
use Rattle.induction.proofs.Valuations.{made, made_shows, made_mark}
use Rattle.induction.proofs.Sequences.{obey_frame}
use Rattle.induction.proofs.BaseFrom.{is_undefined, not_One, marks_satisfied}
use Rattle.induction.proofs.Pairs.{unpair, unpair_at}

abbrev pub differ : Bool → Bool → Bool
differ true b = not b
differ false b = b

differ_up : (a b : Bool) → (not (differ a b) || (a || (b || false))) ≡ true
differ_up = search rules

differ_down : (a b : Bool) → (not (differ a b) || (not a || (not b || false))) ≡ true
differ_down = search rules

-- the gate is a register, and its rail 0 differs in two values
abbrev pub Differs : Gate → Value → Value → Type 0
Differs g x y = (is_register g ≡ true) × (differ (is0 x) (is0 y) ≡ true)

pub compared : (g : Gate) (x y : Value) → (is_register g ≡ true → x ≢ Undefined) → (is_register g ≡ true → y ≢ Undefined) → Differs g x y ⊎ (is_register g ≡ true → x ≡ y)
compared = search rules

module _ (before f : ℕ → Value) (x : Value) (g : Gate) where
  on_register_all : {X : Type 0} (P : X → Type 0) (k : Drive) → Read before f x g k → (c : List X) → (is_register g ≡ true → AllOf P c) → AllOf P (on_register k c)
  on_register_all = search rules

  on_register_some : (v : Valuation) (k : Drive) → Read before f x g k → (c : Clause) → is_register g ≡ true → True v c → True v (on_register k c)
  on_register_some = search rules

  -- a register is defined where the frame before is
  pub register_defined : (n : ℕ) (k : Drive) → DrivesBelow n k → Read before f x g k → (z : Value) → z ≡ wanted single g (supplied single g x before) f → ((w : ℕ) → w < n → before w ≢ Undefined) → is_register g ≡ true → z ≢ Undefined
  register_defined = search rules

-- frames in a row over the frame before, of which the last is bad, the others good, and no two have the same registers
module _ (gs : List Gate) (named : Named gs) (p : ℕ) (within : p < length gs) (d : ℕ) (f : ℕ → ℕ → Value) (row : ℕ → List Bool) (before : ℕ → Value)
    (sizes : (i : ℕ) → i ≤ d → length (row i) ≡ input_count gs)
    (first : Least single gs (given single gs (map bit (row zero)) before) (f zero))
    (next : (i : ℕ) → i < d → Least single gs (given single gs (map bit (row (suc i))) (f i)) (f (suc i)))
    (known : (w : ℕ) → w < length gs → before w ≢ Undefined)
    (good : (i : ℕ) → i < d → Good gs p (f i))
    (bad : Bad gs p (f d))
    (new : (j : ℕ) → j < d + 1 → (i : ℕ) → i < j → (w : ℕ) × (w < length gs) × Differs (gate_at gs w) (f i w) (f j w)) where
  abbrev prev : ℕ → ℕ → Value
  prev zero = before
  prev (suc i) = f i

  obeys : (i : ℕ) → i < d + 1 → Obeys false gs i (prev i) (f i)
  obeys zero l = obey_frame gs named false zero before before (f zero) (row zero) (sizes zero (omega arith)) first.solves (λ w y k h z. known y k (sym h ∙ z))
  obeys (suc i) l =
      obey_frame gs named false (suc i) (f i) (f i) (f (suc i)) (row (suc i)) (sizes (suc i) (omega arith)) (next i (omega arith)).solves
      (λ w y k h. h ∙ sym (passed_same (f i y) ((good i (omega arith)).0 y k)))

  regs : List ℕ
  regs = across (length gs) (listed is_register gs (λ w. w))

  differences : ℕ → Bool
  differences z =
      let q = unpair (z / register_count gs) in
      let w = get_or regs (z % register_count gs) 0 in
      differ (is0 (f q.0 w)) (is0 (f q.1 w))

  marks : ℕ → Bool
  marks z = cond (ltb z (length gs)) (is_undefined (f d z)) (differences (z - length gs))

  v : Valuation
  v = made (length gs) (d + 1) f marks

  shows : (i : ℕ) → i < d + 1 → Shows v (length gs) i (f i)
  unfolding v
  shows i l = made_shows (length gs) (d + 1) f marks i l

  earlier : (i : ℕ) → i < d + 1 → ShowsBefore v (length gs) i (prev i)
  earlier zero l = tt
  earlier (suc i) l = shows i (omega arith)

  mark_is : (w : ℕ) → w < length gs → v (step_mark (length gs) d w) ≡ is_undefined (f d w)
  unfolding v marks
  mark_is w l =
      made_mark (length gs) (d + 1) f marks (step_mark (length gs) d w) w (omega arith)
      ∙ cond-true (ltb w (length gs)) (is_undefined (f d w)) (differences (w - length gs)) (lt-ltb w (length gs) l)

  difference_is : (i j : ℕ) → i < j → (w : ℕ) → w < length gs → is_register (gate_at gs w) ≡ true → v (difference_mark gs d i j w) ≡ differ (is0 (f i w)) (is0 (f j w))
  unfolding v marks differences regs
  difference_is i j l w h t =
      let m = register_count gs in
      let q = pairs_before j + i in
      let r = rank is_register gs w in
      let b : r < m = rank_up is_register gs (length gs) w h (omega arith) t in
      let z = q * m + r in
      made_mark (length gs) (d + 1) f marks (difference_mark gs d i j w) (length gs + z) (omega arith)
      ∙ cond-false (ltb (length gs + z) (length gs)) (is_undefined (f d (length gs + z))) (differences (length gs + z - length gs)) (le-ltb (length gs + z) (length gs) (omega arith))
      ∙ ap differences (let e : length gs + z - length gs ≡ z = omega arith in e)
      ∙ ap₂ (λ (s : ℕ × ℕ) (u : ℕ). differ (is0 (f s.0 u)) (is0 (f s.1 u)))
      (ap unpair (div-mul-add q m r b) ∙ unpair_at i j l)
      (ap (λ k. get_or regs k 0) (mod-mul-add q m r b) ∙ listed_at is_register gs (λ w. w) (length gs) w 0 (omega arith) h t)

  -- which test the gate of a wire passes
  which : (w : ℕ) → Read before before Undefined (gate_at gs w) (driver gs w)
  which w = read before before Undefined (gate_at gs w)

  -- the parts of the step formula
  pair_satisfied : (j : ℕ) → j < d + 1 → (i : ℕ) → i < j → Satisfies v (pair_clauses gs d i j)
  pair_satisfied j k i l =
      let two = λ (w : ℕ). on_register (driver gs w) (differs (length gs) i j w (difference_mark gs d i j w)) in
      let some = λ (w : ℕ). on_register (driver gs w) (plus (difference_mark gs d i j w) ∷ []) in
      let r = new j k i l in
      All-append (True v) (across (length gs) two) (across (length gs) some ∷ [])
      (all_across (True v) (length gs) two
      (λ w m. on_register_all before before Undefined (gate_at gs w) (True v) (driver gs w) (which w) (differs (length gs) i j w (difference_mark gs d i j w))
      (λ t.
      let x = difference_is i j l w m t in
      let a = (shows i (omega arith) w m).0 in
      let b = (shows j k w m).0 in (
        ap₂ (λ s t. not s || t) x (ap₂ (λ s t. s || (t || false)) a b) ∙ differ_up (is0 (f i w)) (is0 (f j w)),
        (ap₂ (λ s t. not s || t) x (ap₂ (λ s t. not s || (not t || false)) a b) ∙ differ_down (is0 (f i w)) (is0 (f j w)), tt),
      )))) (
        some_across v (length gs) some r.0 r.1
            (on_register_some before before Undefined (gate_at gs r.0) v (driver gs r.0) (which r.0) (plus (difference_mark gs d i j r.0) ∷ []) r.2.0
            (ap (λ a. a || false) (difference_is i j l r.0 r.1 r.2.0 ∙ r.2.1))),
        tt,
      )

  good_satisfied : (i : ℕ) → i < d → Satisfies v (good_frame (length gs) p i)
  good_satisfied i l =
      All-append (True v) (across (length gs) (λ w. defined (length gs) i w ∷ [])) ((plus (rail_var (length gs) i (rail1 p)) ∷ []) ∷ [])
      (all_across (True v) (length gs) (λ w. defined (length gs) i w ∷ []) (λ w m. (defines (length gs) v i (f i) (shows i (omega arith)) w m ((good i l).0 w m), tt)))
      (ap (λ a. a || false) ((shows i (omega arith) p within).1 ∙ ap is1 (good i l).1), tt)

  last : True v (step_bad (length gs) p d)
  last =
      let c = across (length gs) (λ w. plus (step_mark (length gs) d w) ∷ []) in
      let e = minus (rail_var (length gs) d (rail1 p)) ∷ [] in
      ⊎_elim
      (λ r. some_left v c e (some_across v (length gs) (λ w. plus (step_mark (length gs) d w) ∷ []) r.0 r.1
      (ap (λ a. a || false) (mark_is r.0 r.1 ∙ ap is_undefined r.2))))
      (λ h. some_right v c e (ap (λ a. not a || false) (shows d (omega arith) p within).1 ∙ not_One (f d p) h))
      bad

  satisfied : Satisfies v (step gs p d)
  satisfied =
      let a = step_frames gs d in
      let b = step_good (length gs) p d in
      let c = mark_clauses (length gs) d (step_mark (length gs) d) in
      let e = step_bad (length gs) p d ∷ [] in
      All-append (True v) (a ++ b ++ c ++ e) (step_pairs gs d)
      (All-append (True v) (a ++ b ++ c) e
      (All-append (True v) (a ++ b) c
      (All-append (True v) a b
      (all_across (True v) (d + 1) (frame_clauses false gs) (λ i l. (frame_encodes gs named false v i (prev i) (f i) (earlier i l) (shows i l)).1 (obeys i l)))
      (all_across (True v) d (good_frame (length gs) p) good_satisfied))
      (marks_satisfied (length gs) v d (f d) (step_mark (length gs) d) (shows d (omega arith)) mark_is))
      (last, tt))
      (all_across (True v) (d + 1) (λ j. across j (λ i. pair_clauses gs d i j)) (λ j k. all_across (True v) j (λ i. pair_clauses gs d i j) (pair_satisfied j k)))

  pub satisfiable : (v : Valuation) × Satisfies v (step gs p d)
  satisfiable = (v, satisfied)
