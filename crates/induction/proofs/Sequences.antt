-- Frames that obey the clauses, beside the frames of a run.
use Rattle.std.proofs.Common.{◌≡◌, ℕ, suc, ◌<◌, Bool, true, false, ◌≢◌, List, map, length, get_or, sym, ◌∙◌, subst, arith, rules}
use Rattle.std.proofs.lemmas.List.{get_or-map}
use Rattle.values.specs.Single.{single}
use Rattle.values.specs.declared.single.Value.{Value}
use Rattle.values.specs.declared.single.Value.TheVariants.{Undefined}
use Rattle.values.specs.Singles.{single_lawful}
use Rattle.gates.specs.declared.gate.Gate.{Gate}
use Rattle.gates.specs.Gates.{is_input, rank}
use Rattle.gates.proofs.Counting.{rank_up}
use Rattle.formulas.specs.Drives.{Drive, driver}
use Rattle.formulas.proofs.Uses.{DrivesBelow}
use Rattle.solutions.specs.Solutions.{gate_at, reads, wanted, supplied, given, Solves, Least}
use Rattle.solutions.specs.Rounds.{frame_row}
use Rattle.solutions.specs.Runs.{bit, input_count}
use Rattle.solutions.specs.Claims.{Named}
use Rattle.solutions.proofs.Rounds.{rounds_end}
use Rattle.solutions.proofs.Leasts.{least_unique, least_given, given_same}
use Rattle.solutions.proofs.Frames.{given_row, frame}
use Rattle.induction.specs.Claims.{Held, Obeyed, Obeys}
use Rattle.induction.proofs.Values.{Read, read, bit≢Undefined}
use Rattle.induction.proofs.Encoding.{below}

module _ (n : ℕ) (starts : Bool) (i : ℕ) (before keep f : ℕ → Value) (w : ℕ) (x : Value) (g : Gate) where
  solve_wire : (k : Drive) → DrivesBelow n k → Read keep f x g k → Obeyed starts i before f w g k → (is_input g ≡ true → f w ≡ x) → ((y : ℕ) → y < n → Held i starts (f w) (before y) → f w ≡ keep y) → f w ≡ wanted single g (supplied single g x keep) f
  solve_wire = search rules

  obey_wire : (k : Drive) → DrivesBelow n k → Read keep f x g k → f w ≡ wanted single g (supplied single g x keep) f → (is_input g ≡ true → x ≢ Undefined) → ((y : ℕ) → y < n → f w ≡ keep y → Held i starts (f w) (before y)) → Obeyed starts i before f w g k
  obey_wire = search rules

module _ (gs : List Gate) (row : List Bool) (size : length row ≡ input_count gs) (w : ℕ) (l : w < length gs) (t : is_input (gate_at gs w) ≡ true) where
  -- what an input is given
  pub given_bit : reads single (map bit row) (rank is_input gs w) ≡ bit (get_or row (rank is_input gs w) false)
  given_bit = get_or-map bit row (rank is_input gs w) false Undefined (omega (arith, rank_up is_input gs (length gs) w l (omega arith) t, size))

  given_defined : reads single (map bit row) (rank is_input gs w) ≢ Undefined
  given_defined e = bit≢Undefined (get_or row (rank is_input gs w) false) (sym given_bit ∙ e)

module _ (gs : List Gate) (named : Named gs) (starts : Bool) (i : ℕ) (before keep f : ℕ → Value) (row : List Bool) where
  pub solve_frame : Obeys starts gs i before f → ((w : ℕ) → w < length gs → is_input (gate_at gs w) ≡ true → f w ≡ reads single (map bit row) (rank is_input gs w)) →
      ((w y : ℕ) → y < length gs → Held i starts (f w) (before y) → f w ≡ keep y) → Solves single gs (given single gs (map bit row) keep) f
  solve_frame o k m w l =
      let x = reads single (map bit row) (rank is_input gs w) in
      solve_wire (length gs) starts i before keep f w x (gate_at gs w) (driver gs w) (below gs named w l) (read keep f x (gate_at gs w)) (o w l) (k w l) (m w)

  pub obey_frame : length row ≡ input_count gs → Solves single gs (given single gs (map bit row) keep) f →
      ((w y : ℕ) → y < length gs → f w ≡ keep y → Held i starts (f w) (before y)) → Obeys starts gs i before f
  obey_frame size s m w l =
      let x = reads single (map bit row) (rank is_input gs w) in
      obey_wire (length gs) starts i before keep f w x (gate_at gs w) (driver gs w) (below gs named w l) (read keep f x (gate_at gs w)) (s w l) (given_defined gs row size w l) (m w)

-- the least solution of a frame
unfoldable pub solution : List Gate → (ℕ → Value) → ℕ → Value
solution gs given = reads single (frame_row single gs given)

module _ (gs : List Gate) (named : Named gs) where
  pub solution_least : (given : ℕ → Value) → Least single gs given (solution gs given)
  unfolding solution
  solution_least given = (rounds_end single single_lawful gs named given).least

  pub frame_next : (rows : List (List Bool)) (i : ℕ) → Least single gs (given_row gs rows i (frame gs rows i)) (frame gs rows (suc i))
  unfolding frame
  frame_next rows i = (rounds_end single single_lawful gs named (given_row gs rows i (frame gs rows i))).least

  -- the least solutions over the same row and frames before that are the same
  pub solutions_same : (row other : List Bool) (b e f g : ℕ → Value) → row ≡ other → ((w : ℕ) → w < length gs → b w ≡ e w) →
      Least single gs (given single gs (map bit row) b) f → Least single gs (given single gs (map bit other) e) g → (w : ℕ) → w < length gs → f w ≡ g w
  solutions_same row other b e f g r h k m =
      let moved = subst (λ z. Least single gs (given single gs (map bit z) b) f) r k in
      least_unique single single_lawful gs (given single gs (map bit other) e) f g
      (least_given single gs (given single gs (map bit other) b) (given single gs (map bit other) e) (given_same single gs named (map bit other) b e h) f moved) m
