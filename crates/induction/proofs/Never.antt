-- No run is bad within the depth, nothing satisfies the step formula: no run is ever bad.
use Rattle.std.proofs.Common.{◌≡◌, ℕ, zero, suc, ◌+◌, ◌-◌, ◌<◌, ◌≤◌, Bool, true, ◌≢◌, ◌⊎◌, List, [], map, length, get_or, sym, ◌∙◌, subst, inl, inr, ⊎_elim, add-suc, arith, below_more}
use Rattle.std.proofs.lemmas.Bool.{cases_lt}
use Rattle.std.proofs.ByRecursion.{All-get_or}
use Rattle.values.specs.Single.{single}
use Rattle.values.specs.declared.single.Value.{Value}
use Rattle.values.specs.declared.single.Value.TheVariants.{Undefined}
use Rattle.gates.specs.declared.gate.Gate.{Gate}
use Rattle.gates.specs.Gates.{is_input, is_register, rank}
use Rattle.clauses.specs.Clauses.{Valuation, Satisfies}
use Rattle.formulas.specs.Drives.{driver}
use Rattle.formulas.specs.Formulas.{step}
use Rattle.solutions.specs.Solutions.{gate_at, reads, given, Least}
use Rattle.solutions.specs.Runs.{bit, input_count, Run, Bad, BadAt, BadWithin}
use Rattle.solutions.specs.Claims.{Named}
use Rattle.solutions.proofs.Frames.{frame, frame_is, Good, bad_or_good, bad_told}
use Rattle.induction.specs.Claims.{StepSays}
use Rattle.induction.proofs.Values.{zero_not_undefined, read}
use Rattle.induction.proofs.Encoding.{below}
use Rattle.induction.proofs.Sequences.{frame_next}
use Rattle.induction.proofs.Steps.{Differs, compared, register_defined, satisfiable}
use Rattle.induction.proofs.Cuts.{cut, cut_run, bad_earlier}

-- one below n of which P holds, or Q holds of all of them
find_within : (P Q : ℕ → Type 0) (n : ℕ) → ((i : ℕ) → i < n → P i ⊎ Q i) → ((i : ℕ) × (i < n) × P i) ⊎ ((i : ℕ) → i < n → Q i)
find_within P Q zero dec = inr (λ i l. absurd (omega arith))
find_within P Q (suc n) dec =
    ⊎_elim (λ r. inl (r.0, omega (arith, r.1), r.2))
    (λ h. ⊎_elim (λ p. inl (n, omega arith, p)) (λ q. inr (λ i l. below_more Q n h q i (omega arith))) (dec n (omega arith))) (find_within P Q n (λ i l. dec i (omega arith)))

-- induction from all the numbers below
strong : (P : ℕ → Type 0) → ((k : ℕ) → ((j : ℕ) → j < k → P j) → P k) → (k : ℕ) → P k
strong P h k = under (suc k) k (omega arith)
  where
    under : (n j : ℕ) → j < n → P j
    under zero j l = absurd (omega arith)
    under (suc n) j l = h j (λ i m. under n i (omega arith))

module _ (gs : List Gate) (named : Named gs) (p : ℕ) (within : p < length gs) (d : ℕ) where
  -- the frame with k frames before it is the first bad one, and k is not below the depth
  module _ (rows : List (List Bool)) (run : Run gs rows) (k : ℕ) (size : k < length rows) (deep : d ≤ k)
      (good : (j : ℕ) → j < k → Good gs p (frame gs rows (suc j))) (bad : Bad gs p (frame gs rows (suc k))) where
    a : ℕ
    a = k - d

    f : ℕ → ℕ → Value
    f t = frame gs rows (suc (a + t))

    frame_known : (i : ℕ) → i ≤ k → (w : ℕ) → w < length gs → frame gs rows i w ≢ Undefined
    frame_known zero l w m = λ e. zero_not_undefined (sym (frame_is gs named rows zero w m) ∙ e)
    frame_known (suc i) l w m = (good i (omega arith)).0 w m

    register_known : (i : ℕ) → i ≤ k → (w : ℕ) → w < length gs → is_register (gate_at gs w) ≡ true → frame gs rows (suc i) w ≢ Undefined
    register_known i l w m =
        let x = reads single (map bit (get_or rows i [])) (rank is_input gs w) in
        register_defined (frame gs rows i) (frame gs rows (suc i)) x (gate_at gs w) (length gs) (driver gs w) (below gs named w m)
        (read (frame gs rows i) (frame gs rows (suc i)) x (gate_at gs w)) (frame gs rows (suc i) w) ((frame_next gs named rows i).solves w m) (frame_known i l)

    Same : ℕ → ℕ → Type 0
    Same i j = (w : ℕ) → w < length gs → is_register (gate_at gs w) ≡ true → f i w ≡ f j w

    New : ℕ → ℕ → Type 0
    New i j = (w : ℕ) × (w < length gs) × Differs (gate_at gs w) (f i w) (f j w)

    same_or_new : (i j : ℕ) → i < j → j < d + 1 → Same i j ⊎ New i j
    unfolding Same New f a
    same_or_new i j l m =
        ⊎_elim inr inl
        (find_within (λ w. Differs (gate_at gs w) (f i w) (f j w)) (λ w. is_register (gate_at gs w) ≡ true → f i w ≡ f j w) (length gs)
        (λ w h. compared (gate_at gs w) (f i w) (f j w) (register_known (a + i) (omega arith) w h) (register_known (a + j) (omega arith) w h)))

    pairs : ((j : ℕ) × (j < d + 1) × ((i : ℕ) × (i < j) × Same i j)) ⊎ ((j : ℕ) → j < d + 1 → (i : ℕ) → i < j → New i j)
    pairs =
        find_within (λ j. (i : ℕ) × (i < j) × Same i j) (λ j. (i : ℕ) → i < j → New i j) (d + 1)
        (λ j m. find_within (λ i. Same i j) (λ i. New i j) j (λ i l. same_or_new i j l m))

    end : a + d ≡ k
    unfolding a
    end = omega arith

    formula : ((j : ℕ) → j < d + 1 → (i : ℕ) → i < j → New i j) → (v : Valuation) × Satisfies v (step gs p d)
    unfolding New f a
    formula new =
        satisfiable gs named p within d f (λ t. get_or rows (a + t) []) (frame gs rows (a + 0))
        (λ i l. All-get_or (λ r. length r ≡ input_count gs) rows (a + i) [] (omega arith) run)
        (frame_next gs named rows (a + 0))
        (λ i l. subst (λ z. Least single gs (given single gs (map bit (get_or rows z [])) (frame gs rows (suc (a + i)))) (frame gs rows (suc z))) (sym (add-suc a i)) (frame_next gs named rows (suc (a + i))))
        (frame_known (a + 0) (omega arith))
        (λ i l. good (a + i) (omega arith))
        (subst (λ z. Bad gs p (frame gs rows (suc z))) (sym end) bad)
        new

    shorter : ((j : ℕ) × (j < d + 1) × ((i : ℕ) × (i < j) × Same i j)) → (cut : List (List Bool)) × Run gs cut × ((i : ℕ) × (i < suc k) × BadAt gs p cut i)
    unfolding Same f a
    shorter r =
        let j = r.0 in
        let i = r.2.0 in
        let jd : j < d + 1 = r.1 in
        let ij : i < j = r.2.1 in
        let l : a + i < a + j = omega arith in
        let m : a + j ≤ k = omega arith in (
          cut gs named p within rows (a + i) (a + j) k l m size,
          cut_run gs named p within rows (a + i) (a + j) k l m size run,
          (suc (a + i + (k - (a + j))), omega arith, bad_earlier gs named p within rows (a + i) (a + j) k l m size r.2.2 bad),
        )

  module _ (base : (rows : List (List Bool)) → Run gs rows → BadWithin gs p d rows → ⊥) (closed : (v : Valuation) → Satisfies v (step gs p d) → ⊥) where
    one_step : (k : ℕ) → ((j : ℕ) → j < k → (rows : List (List Bool)) → Run gs rows → BadAt gs p rows j → ⊥) → (rows : List (List Bool)) → Run gs rows → BadAt gs p rows k → ⊥
    one_step zero earlier rows run b = omega (arith, b.0)
    one_step (suc k) earlier rows run b =
        ⊎_elim (λ l. base rows run (suc k, omega arith, b))
        (λ deep.
        let size : k < length rows = b.1 in
        let bad = bad_told gs p within named rows (suc k) (frame gs rows (suc k)) (frame_is gs named rows (suc k)) b in
        let good : (j : ℕ) → j < k → Good gs p (frame gs rows (suc j)) =
        λ j l. ⊎_elim (λ h. absurd (earlier (suc j) (omega arith) rows run (omega arith, omega arith, (frame gs rows (suc j), frame_is gs named rows (suc j), h)))) (λ g. g)
        (bad_or_good gs p (frame gs rows (suc j))) in
        ⊎_elim
        (λ r. let s = shorter rows run k size deep good bad r in earlier s.2.0 s.2.1 s.0 s.1 s.2.2)
        (λ new. let s = formula rows run k size deep good bad new in closed s.0 s.1)
        (pairs rows run k size deep good bad))
        (cases_lt k d)

pub step_says : StepSays
step_says gs p d named within base closed rows run k b =
    strong (λ j. (rows : List (List Bool)) → Run gs rows → BadAt gs p rows j → ⊥) (one_step gs named p within d base closed) k rows run b
