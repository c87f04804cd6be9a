-- A run that is bad within the depth gives a valuation that satisfies the base formula.
use Rattle.std.proofs.Common.{◌≡◌, ℕ, zero, suc, ◌+◌, ◌*◌, ◌/◌, ◌%◌, ◌<◌, ◌≤◌, Bool, true, false, not, ◌||◌, ◌≢◌, List, [], ◌∷◌, ◌++◌, map, length, get_or, replicate, sym, ap, ◌∙◌, ap₂, ⊎_elim, arith, rules}
use lib.ListN.{length-replicate}
use Rattle.std.proofs.lemmas.Nat.{div-mul-add, mod-mul-add}
use Rattle.std.proofs.lemmas.List.{get_or_default, get_or_past}
use Rattle.std.proofs.ByRecursion.{All-append, All-get_or}
use Rattle.std.proofs.lemmas.Bool.{cases_lt}
use Rattle.values.specs.Sides.{rail0, rail1}
use Rattle.values.specs.Single.{is0, is1, single}
use Rattle.values.specs.declared.single.Value.{Value}
use Rattle.values.specs.declared.single.Value.TheVariants.{Undefined, Zero, One}
use Rattle.gates.specs.declared.gate.Gate.{Gate}
use Rattle.clauses.specs.Clauses.{Valuation, Satisfies, across, plus, minus}
use Rattle.clauses.proofs.Across.{all_across}
use Rattle.formulas.specs.Formulas.{rail_var, base_mark, frame_clauses, mark_clauses, base_frames, base_marks, base_bad, base}
use Rattle.solutions.specs.Solutions.{given, Least}
use Rattle.solutions.specs.Runs.{bit, input_count, Run, Bad, BadAt}
use Rattle.solutions.specs.Claims.{Named}
use Rattle.solutions.proofs.Firsts.{find_first}
use Rattle.solutions.proofs.Frames.{frame, frame_is, Good, bad_or_good, good_same, not_bad_at}
use Rattle.induction.specs.Readings.{Shows, ShowsBefore, run_of}
use Rattle.induction.specs.Claims.{passed, Obeys, BaseSays}
use Rattle.induction.proofs.Parts.{True, some_left, some_right, some_across}
use Rattle.induction.proofs.Values.{zero_not_undefined, passed_same}
use Rattle.induction.proofs.Encoding.{frame_encodes}
use Rattle.induction.proofs.Valuations.{made, made_shows, made_mark}
use Rattle.induction.proofs.Sequences.{obey_frame, solution, solution_least, frame_next, solutions_same}
use Rattle.induction.proofs.BaseTo.{base_shows}

abbrev pub is_undefined : Value → Bool
is_undefined Undefined = true
is_undefined Zero = false
is_undefined One = false

-- a mark that is up only where its wire is undefined
mark_0 : (x : Value) → (not (is_undefined x) || (not (is0 x) || false)) ≡ true
mark_0 = search rules

mark_1 : (x : Value) → (not (is_undefined x) || (not (is1 x) || false)) ≡ true
mark_1 = search rules

pub not_One : (x : Value) → x ≢ One → (not (is1 x) || false) ≡ true
not_One = search rules

-- the clauses of a frame's marks
pub marks_satisfied : (n : ℕ) (v : Valuation) (i : ℕ) (f : ℕ → Value) (u : ℕ → ℕ) → Shows v n i f → ((w : ℕ) → w < n → v (u w) ≡ is_undefined (f w)) → Satisfies v (mark_clauses n i u)
marks_satisfied n v i f u s h =
    all_across (True v) n (λ w. (minus (u w) ∷ minus (rail_var n i (rail0 w)) ∷ []) ∷ (minus (u w) ∷ minus (rail_var n i (rail1 w)) ∷ []) ∷ [])
    (λ w l. (
      ap₂ (λ a b. not a || (not b || false)) (h w l) (s w l).0 ∙ mark_0 (f w),
      (ap₂ (λ a b. not a || (not b || false)) (h w l) (s w l).1 ∙ mark_1 (f w), tt),
    ))

module _ (gs : List Gate) (named : Named gs) (p : ℕ) (within : p < length gs) (d : ℕ) (rows : List (List Bool)) (run : Run gs rows) where
  -- the rows of the run, and after them rows of 0
  abbrev row : ℕ → List Bool
  row i = get_or rows i (replicate (input_count gs) false)

  row_size : (i : ℕ) → length (row i) ≡ input_count gs
  row_size i =
      ⊎_elim (λ l. All-get_or (λ r. length r ≡ input_count gs) rows i (replicate (input_count gs) false) l run)
      (λ l. ap length (get_or_past rows i (replicate (input_count gs) false) l) ∙ length-replicate (input_count gs) false) (cases_lt i (length rows))

  -- the run's frames, but that an undefined value is passed on as 1
  sent : ℕ → ℕ → Value
  sent zero = λ w. Zero
  sent (suc i) = solution gs (given single gs (map bit (row i)) (λ w. passed (sent i w)))

  sent_next : (i : ℕ) → Least single gs (given single gs (map bit (row i)) (λ w. passed (sent i w))) (sent (suc i))
  unfolding sent
  sent_next i = solution_least gs named (given single gs (map bit (row i)) (λ w. passed (sent i w)))

  sent_known : (m : ℕ) → ((i : ℕ) → i < m → Good gs p (sent (suc i))) → (i : ℕ) → i ≤ m → (w : ℕ) → w < length gs → sent i w ≢ Undefined
  unfolding sent
  sent_known m good zero l w h = zero_not_undefined
  sent_known m good (suc i) l w h = (good i (omega arith)).0 w h

  agree : (m : ℕ) → m ≤ length rows → ((i : ℕ) → i < m → Good gs p (sent (suc i))) → (i : ℕ) → i ≤ m → (w : ℕ) → w < length gs → frame gs rows i w ≡ sent i w
  unfolding sent
  agree m s good zero l = frame_is gs named rows zero
  agree m s good (suc i) l =
      let before = agree m s good i (omega arith) in
      solutions_same gs named (get_or rows i []) (row i) (frame gs rows i) (λ w. passed (sent i w)) (frame gs rows (suc i)) (sent (suc i))
      (get_or_default rows i [] (replicate (input_count gs) false) (omega arith))
      (λ w h. before w h ∙ sym (passed_same (sent i w) (sent_known m good i (omega arith) w h))) (frame_next gs named rows i) (sent_next i)

  obeys : (i : ℕ) → Obeys true gs i (sent i) (sent (suc i))
  unfolding sent
  obeys zero = obey_frame gs named true zero (sent zero) (λ w. passed (sent zero w)) (sent 1) (row zero) (row_size zero) (sent_next zero).solves (λ w y k h. h)
  obeys (suc i) = obey_frame gs named true (suc i) (sent (suc i)) (λ w. passed (sent (suc i) w)) (sent (suc (suc i))) (row (suc i)) (row_size (suc i)) (sent_next (suc i)).solves (λ w y k h. h)

  abbrev f : ℕ → ℕ → Value
  f i = sent (suc i)

  marks : ℕ → Bool
  marks z = is_undefined (f (z / length gs) (z % length gs))

  v : Valuation
  v = made (length gs) d f marks

  shows : (i : ℕ) → i < d → Shows v (length gs) i (f i)
  unfolding v
  shows i l = made_shows (length gs) d f marks i l

  earlier : (i : ℕ) → i < d → ShowsBefore v (length gs) i (sent i)
  earlier zero l = tt
  earlier (suc i) l = shows i (omega arith)

  mark_is : (i w : ℕ) → w < length gs → v (base_mark (length gs) d i w) ≡ is_undefined (f i w)
  unfolding v marks
  mark_is i w l =
      made_mark (length gs) d f marks (base_mark (length gs) d i w) (i * length gs + w) (omega arith)
      ∙ ap₂ (λ j k. is_undefined (f j k)) (div-mul-add i (length gs) w l) (mod-mul-add i (length gs) w l)

  last : (i : ℕ) → i < d → Bad gs p (f i) → True v (base_bad (length gs) p d)
  last i l b =
      let c = across d (λ i. across (length gs) (λ w. plus (base_mark (length gs) d i w) ∷ [])) in
      let e = across d (λ i. minus (rail_var (length gs) i (rail1 p)) ∷ []) in
      ⊎_elim
      (λ r. some_left v c e (some_across v d (λ i. across (length gs) (λ w. plus (base_mark (length gs) d i w) ∷ [])) i l
      (some_across v (length gs) (λ w. plus (base_mark (length gs) d i w) ∷ []) r.0 r.1
      (ap (λ a. a || false) (mark_is i r.0 r.1 ∙ ap is_undefined r.2)))))
      (λ h. some_right v c e (some_across v d (λ i. minus (rail_var (length gs) i (rail1 p)) ∷ []) i l
      (ap (λ a. not a || false) (shows i l p within).1 ∙ not_One (f i p) h)))
      b

  satisfied : (i : ℕ) → i < d → Bad gs p (f i) → Satisfies v (base gs p d)
  satisfied i l b =
      All-append (True v) (base_frames gs d ++ base_marks (length gs) d) (base_bad (length gs) p d ∷ [])
      (All-append (True v) (base_frames gs d) (base_marks (length gs) d)
      (all_across (True v) d (frame_clauses true gs) (λ i l. (frame_encodes gs named true v i (sent i) (f i) (earlier i l) (shows i l)).1 (obeys i)))
      (all_across (True v) d (λ i. mark_clauses (length gs) i (base_mark (length gs) d i))
      (λ i l. marks_satisfied (length gs) v i (f i) (base_mark (length gs) d i) (shows i l) (mark_is i))))
      (last i l b, tt)

  valuation : (k : ℕ) → k ≤ d → BadAt gs p rows k → (v : Valuation) × Satisfies v (base gs p d)
  valuation zero l b = absurd (omega (arith, b.0))
  valuation (suc j) l b =
      ⊎_elim (λ r. (v, satisfied r.0 (omega (arith, r.1)) r.2))
      (λ good.
      absurd (not_bad_at gs p within named rows (suc j) (frame gs rows (suc j)) (frame_is gs named rows (suc j))
      (good_same gs p within (f j) (frame gs rows (suc j)) (λ w m. sym (agree (suc j) b.1 good (suc j) (omega arith) w m)) (good j (omega arith))) b))
      (find_first (λ i. Bad gs p (f i)) (λ i. Good gs p (f i)) (λ i. bad_or_good gs p (f i)) (suc j))

pub base_says : BaseSays
base_says gs p d named within = (
  λ s. let shown = base_shows gs p d named within s.0 s.1 in (run_of gs s.0 d, shown.0, shown.2),
  λ r. valuation gs named p within d r.0 r.1 r.2.0 r.2.1 r.2.2,
)
