-- A valuation that satisfies the base formula shows a run that is bad within the depth.
use Rattle.std.proofs.Common.{◌≡◌, ℕ, zero, suc, ◌<◌, ◌≤◌, Bool, true, false, ◌≢◌, List, [], ◌∷◌, ◌++◌, map, length, get_or, sym, ap, ◌∙◌, ap₂, inl, inr, ⊎_elim, arith, rules}
use mathlib.Core.Bool.{false≢true, or-false}
use Rattle.std.proofs.lemmas.Bool.{cases_lt}
use Rattle.values.specs.Sides.{rail0, rail1}
use Rattle.values.specs.Single.{is1, from_rails, single}
use Rattle.values.specs.declared.single.Value.{Value}
use Rattle.values.specs.declared.single.Value.TheVariants.{Undefined, Zero}
use Rattle.gates.specs.declared.gate.Gate.{Gate}
use Rattle.gates.specs.Gates.{is_input, rank}
use Rattle.clauses.specs.Clauses.{Valuation, Satisfies, across, plus, minus}
use Rattle.clauses.proofs.Across.{all_across}
use Rattle.formulas.specs.Drives.{Drive, driver}
use Rattle.formulas.specs.Formulas.{rail_var, base_mark, frame_clauses, mark_clauses, base_frames, base_marks, base_bad, base}
use Rattle.solutions.specs.Solutions.{gate_at, reads}
use Rattle.solutions.specs.Runs.{bit, input_count, Run, Bad, BadWithin}
use Rattle.solutions.specs.Claims.{Named}
use Rattle.solutions.proofs.Firsts.{find_first}
use Rattle.solutions.proofs.Frames.{given_row, frame, frame_is, Good, bad_or_good, not_both, bad_same, first_bad}
use Rattle.induction.specs.Readings.{Shows, ShowsBefore, seen, row_of, run_of}
use Rattle.induction.specs.Claims.{passed, Obeyed, Obeys, BaseShows, HiddenNever}
use Rattle.induction.proofs.Parts.{all_split, across_all, True, some_split, across_some, not_only, other_down}
use Rattle.induction.proofs.Values.{bit_is1, passed_same, Read, read}
use Rattle.induction.proofs.Encoding.{frame_encodes, frame_shown}
use Rattle.induction.proofs.Solved.{least_defined}
use Rattle.induction.proofs.Ranked.{length_listed, listed_at, length_across, at_across}
use Rattle.induction.proofs.Sequences.{given_bit, solve_frame, frame_next}

-- an input that obeys is defined
input_defined : (starts : Bool) (i : ℕ) (before f : ℕ → Value) (w : ℕ) (g : Gate) (k : Drive) → Read before f Undefined g k → Obeyed starts i before f w g k → is_input g ≡ true → f w ≢ Undefined
input_defined = search rules

module _ (gs : List Gate) (named : Named gs) (p : ℕ) (within : p < length gs) (d : ℕ) (v : Valuation) (sat : Satisfies v (base gs p d)) where
  abbrev f : ℕ → ℕ → Value
  f i = seen v (length gs) i

  abbrev prev : ℕ → ℕ → Value
  prev zero = λ w. Zero
  prev (suc i) = f i

  abbrev rows : List (List Bool)
  rows = run_of gs v d

  parts : Satisfies v (base_frames gs d ++ base_marks (length gs) d) × Satisfies v (base_bad (length gs) p d ∷ [])
  parts = all_split (True v) (base_frames gs d ++ base_marks (length gs) d) (base_bad (length gs) p d ∷ []) sat

  halves : Satisfies v (base_frames gs d) × Satisfies v (base_marks (length gs) d)
  halves = all_split (True v) (base_frames gs d) (base_marks (length gs) d) parts.0

  frames_hold : (i : ℕ) → i < d → Satisfies v (frame_clauses true gs i)
  frames_hold i l = across_all (True v) d (frame_clauses true gs) halves.0 i l

  shows : (i : ℕ) → i < d → Shows v (length gs) i (f i)
  shows i l = frame_shown gs true v i (frames_hold i l)

  earlier : (i : ℕ) → i < d → ShowsBefore v (length gs) i (prev i)
  earlier zero l = tt
  earlier (suc i) l = shows i (omega arith)

  obeys : (i : ℕ) → i < d → Obeys true gs i (prev i) (f i)
  obeys i l = (frame_encodes gs named true v i (prev i) (f i) (earlier i l) (shows i l)).0 (frames_hold i l)

  row_is : (i : ℕ) → i < d → get_or rows i [] ≡ row_of gs v i
  row_is i l = at_across d (row_of gs v) [] i l

  row_size : (i : ℕ) → length (row_of gs v i) ≡ input_count gs
  row_size i = length_listed is_input gs (λ w. v (rail_var (length gs) i (rail1 w))) (length gs) (omega arith)

  size : length rows ≡ d
  size = length_across d (row_of gs v)

  is_run : Run gs rows
  is_run = all_across (λ r. length r ≡ input_count gs) d (λ i. row_of gs v i ∷ []) (λ i l. (row_size i, tt))

  -- an input of the run has the value that the valuation shows
  taken : (i : ℕ) → i < d → (w : ℕ) → w < length gs → is_input (gate_at gs w) ≡ true → f i w ≡ reads single (map bit (get_or rows i [])) (rank is_input gs w)
  taken i l w m t =
      let r = rank is_input gs w in
      let x = v (rail_var (length gs) i (rail1 w)) in
      let known = input_defined true i (prev i) (f i) w (gate_at gs w) (driver gs w) (read (prev i) (f i) Undefined (gate_at gs w)) (obeys i l w m) t in
      let there : reads single (map bit (row_of gs v i)) r ≡ bit x =
      given_bit gs (row_of gs v i) (row_size i) w m t ∙ ap bit (listed_at is_input gs (λ w. v (rail_var (length gs) i (rail1 w))) (length gs) w false (omega arith) m t) in
      bit_is1 (f i w) known ∙ ap bit (sym (shows i l w m).1) ∙ sym there ∙ ap (λ row. reads single (map bit row) r) (sym (row_is i l))

  -- as long as the frames of the run are good, they are the frames that the valuation shows
  agree : (m : ℕ) → m ≤ d → ((i : ℕ) → i < m → Good gs p (frame gs rows (suc i))) → (i : ℕ) → i < m → (w : ℕ) → w < length gs → f i w ≡ frame gs rows (suc i) w
  agree m s good zero l =
      least_defined gs (given_row gs rows zero (frame gs rows zero)) (frame gs rows 1) (frame_next gs named rows zero) (good zero l).0 (f zero)
      (solve_frame gs named true zero (prev zero) (frame gs rows zero) (f zero) (get_or rows zero []) (obeys zero (omega arith)) (taken zero (omega arith))
      (λ w y k h. h ∙ sym (frame_is gs named rows zero y k)))
  agree m s good (suc i) l =
      let before = agree m s good i (omega arith) in
      least_defined gs (given_row gs rows (suc i) (frame gs rows (suc i))) (frame gs rows (suc (suc i))) (frame_next gs named rows (suc i)) (good (suc i) l).0 (f (suc i))
      (solve_frame gs named true (suc i) (f i) (frame gs rows (suc i)) (f (suc i)) (get_or rows (suc i) []) (obeys (suc i) (omega arith)) (taken (suc i) (omega arith))
      (λ w y k h. h ∙ ap passed (before y k) ∙ passed_same (frame gs rows (suc i) y) ((good i (omega arith)).0 y k)))

  -- where a frame of the valuation is bad, the run is bad by then
  bad_by_then : (i : ℕ) → i < d → Bad gs p (f i) → BadWithin gs p (suc i) rows
  bad_by_then i l b =
      ⊎_elim
      (λ r. (suc r.0, omega (arith, r.1), (omega arith, omega (arith, r.1, size), (frame gs rows (suc r.0), frame_is gs named rows (suc r.0), r.2))))
      (λ good. absurd (not_both gs p (frame gs rows (suc i)) (good i (omega arith))
      (bad_same gs p within (f i) (frame gs rows (suc i)) (agree (suc i) (omega arith) good i (omega arith)) b)))
      (find_first (λ j. Bad gs p (frame gs rows (suc j))) (λ j. Good gs p (frame gs rows (suc j))) (λ j. bad_or_good gs p (frame gs rows (suc j))) (suc i))

  marked : (i : ℕ) → i < d → (w : ℕ) → w < length gs → v (base_mark (length gs) d i w) ≡ true → f i w ≡ Undefined
  marked i l w m e =
      let u = base_mark (length gs) d i in
      let marks = across_all (True v) d (λ i. mark_clauses (length gs) i (base_mark (length gs) d i)) halves.1 i l in
      let c = across_all (True v) (length gs) (λ w. (minus (u w) ∷ minus (rail_var (length gs) i (rail0 w)) ∷ []) ∷ (minus (u w) ∷ minus (rail_var (length gs) i (rail1 w)) ∷ []) ∷ []) marks w m in
      ap₂ from_rails (other_down (v (u w)) (v (rail_var (length gs) i (rail0 w))) c.0 e) (other_down (v (u w)) (v (rail_var (length gs) i (rail1 w))) c.1.0 e)

  some_bad : (i : ℕ) × (i < d) × Bad gs p (f i)
  some_bad =
      let us = across d (λ i. across (length gs) (λ w. plus (base_mark (length gs) d i w) ∷ [])) in
      let ps = across d (λ i. minus (rail_var (length gs) i (rail1 p)) ∷ []) in
      ⊎_elim
      (λ h.
      let r = across_some v d (λ i. across (length gs) (λ w. plus (base_mark (length gs) d i w) ∷ [])) h in
      let s = across_some v (length gs) (λ w. plus (base_mark (length gs) d r.0 w) ∷ []) r.2 in
      (r.0, r.1, inl (s.0, s.1, marked r.0 r.1 s.0 s.1 (sym (or-false (v (base_mark (length gs) d r.0 s.0))) ∙ s.2))))
      (λ h.
      let r = across_some v d (λ i. minus (rail_var (length gs) i (rail1 p)) ∷ []) h in
      let down = not_only (v (rail_var (length gs) r.0 (rail1 p))) r.2 in
      (r.0, r.1, inr (λ e. false≢true (sym down ∙ (shows r.0 r.1 p within).1 ∙ ap is1 e))))
      (some_split v us ps parts.1.0)

  bad_run : BadWithin gs p d rows
  bad_run =
      let s = some_bad in
      let b = bad_by_then s.0 s.1 s.2 in
      (b.0, omega (arith, b.1, s.1), b.2)

pub base_shows : BaseShows
base_shows gs p d named within v sat =
    let b = bad_run gs named p within d v sat in
    let first = first_bad gs p d named within (run_of gs v d) b in
    (is_run gs named p within d v sat, size gs named p within d v sat, b, (first.0, first.2.0, first.1, (first.2, first.3)))

pub hidden_never : HiddenNever
hidden_never gs p d named within v sat i l b k first =
    let h = bad_by_then gs named p within d v sat i l b in
    ⊎_elim (λ m. absurd (first.1 h.0 m h.2)) (λ m. omega (arith, m, h.1)) (cases_lt h.0 k)
