-- The frames of a run, and which of them are bad.
use Rattle.std.proofs.Common.{◌≡◌, ℕ, zero, suc, ◌<◌, ◌≤◌, Bool, ◌≢◌, ◌⊎◌, List, [], map, length, get_or, sym, refl, ◌∙◌, subst, inl, inr, ⊎_elim, arith}
use Rattle.std.proofs.lemmas.Bool.{cases_lt}
use Rattle.values.specs.Single.{single}
use Rattle.values.specs.declared.single.Value.{Value}
use Rattle.values.specs.declared.single.Value.TheVariants.{Undefined, Zero, One}
use Rattle.values.specs.Ranks.{equal_or_not}
use Rattle.values.specs.Singles.{single_lawful}
use Rattle.gates.specs.declared.gate.Gate.{Gate}
use Rattle.solutions.specs.Solutions.{reads, Least, given}
use Rattle.solutions.specs.Rounds.{frame_row}
use Rattle.solutions.specs.Runs.{bit, Frame, Bad, BadAt}
use Rattle.solutions.specs.Claims.{Named, FramesExist, FramesUnique, FirstBad}
use Rattle.solutions.proofs.Firsts.{find_first}
use Rattle.solutions.proofs.Rounds.{rounds_end}
use Rattle.solutions.proofs.Leasts.{least_unique, least_given, given_same}

-- what a row of bits and the frame before give a frame of a run
abbrev pub given_row : List Gate → List (List Bool) → ℕ → (ℕ → Value) → ℕ → Value
given_row gs rows k before = given single gs (map bit (get_or rows k [])) before

-- frame k of a run, as a function
unfoldable pub frame : List Gate → List (List Bool) → ℕ → ℕ → Value
frame gs rows zero = λ w. Zero
frame gs rows (suc k) = reads single (frame_row single gs (given_row gs rows k (frame gs rows k)))

module _ (gs : List Gate) (named : Named gs) (rows : List (List Bool)) where
  pub frame_is : (k : ℕ) → Frame gs rows k (frame gs rows k)
  unfolding frame
  frame_is zero = λ w l. refl
  frame_is (suc k) = (frame gs rows k, frame_is k, (rounds_end single single_lawful gs named (given_row gs rows k (frame gs rows k))).least)

  -- what the rounds leave is the next frame
  pub next_frame : (k : ℕ) (before : ℕ → Value) (xs : List Value) → Frame gs rows k before → frame_row single gs (given_row gs rows k before) ≡ xs → Frame gs rows (suc k) (reads single xs)
  next_frame k before xs h e =
      (before, h, subst (λ ys. Least single gs (given_row gs rows k before) (reads single ys)) e (rounds_end single single_lawful gs named (given_row gs rows k before)).least)

  pub frame_only : (k : ℕ) (f g : ℕ → Value) → Frame gs rows k f → Frame gs rows k g → (w : ℕ) → w < length gs → f w ≡ g w
  frame_only zero f g h i w l = h w l ∙ sym (i w l)
  frame_only (suc k) f g h i w l =
      least_unique single single_lawful gs (given_row gs rows k i.0) f g
      (least_given single gs (given_row gs rows k h.0) (given_row gs rows k i.0)
      (given_same single gs named (map bit (get_or rows k [])) h.0 i.0 (frame_only k h.0 i.0 h.1 i.1)) f h.2)
      i.2 w l

pub frames_exist : FramesExist
frames_exist gs named rows k = (frame gs rows k, frame_is gs named rows k)

pub frames_unique : FramesUnique
frames_unique gs named rows k f g h i = frame_only gs named rows k f g h i

-- A good frame: every wire is defined, and the property wire is 1.
abbrev pub Good : List Gate → ℕ → (ℕ → Value) → Type 0
Good gs p f = ((w : ℕ) → w < length gs → f w ≢ Undefined) × (f p ≡ One)

module _ (gs : List Gate) (p : ℕ) where
  pub bad_or_good : (f : ℕ → Value) → Bad gs p f ⊎ Good gs p f
  bad_or_good f =
      ⊎_elim (λ r. inl (inl (r.0, r.1, r.2))) (λ d. ⊎_elim (λ e. inr (d, e)) (λ n. inl (inr n)) (equal_or_not single single_lawful (f p) One))
      (find_first (λ w. f w ≡ Undefined) (λ w. f w ≢ Undefined) (λ w. equal_or_not single single_lawful (f w) Undefined) (length gs))

  pub not_both : (f : ℕ → Value) → Good gs p f → Bad gs p f → ⊥
  not_both f g b = ⊎_elim (λ r. g.0 r.0 r.1 r.2) (λ n. n g.1) b

  module _ (within : p < length gs) where
    pub bad_same : (f g : ℕ → Value) → ((w : ℕ) → w < length gs → f w ≡ g w) → Bad gs p f → Bad gs p g
    bad_same f g same b = ⊎_elim (λ r. inl (r.0, r.1, sym (same r.0 r.1) ∙ r.2)) (λ n. inr (λ e. n (same p within ∙ e))) b

    pub good_same : (f g : ℕ → Value) → ((w : ℕ) → w < length gs → f w ≡ g w) → Good gs p f → Good gs p g
    good_same f g same h = (λ w l e. h.0 w l (same w l ∙ e), sym (same p within) ∙ h.1)

    module _ (named : Named gs) (rows : List (List Bool)) where
      -- one frame of that number tells
      pub bad_told : (k : ℕ) (f : ℕ → Value) → Frame gs rows k f → BadAt gs p rows k → Bad gs p f
      bad_told k f h b = bad_same b.2.0 f (frame_only gs named rows k b.2.0 f b.2.1 h) b.2.2

      pub not_bad_at : (k : ℕ) (f : ℕ → Value) → Frame gs rows k f → Good gs p f → BadAt gs p rows k → ⊥
      not_bad_at k f h g b = not_both f g (bad_told k f h b)

      -- where the frames from 1 to n are good, none up to n is bad
      pub none_bad : (n : ℕ) → ((i : ℕ) → i < n → Good gs p (frame gs rows (suc i))) → (k : ℕ) → k ≤ n → BadAt gs p rows k → ⊥
      none_bad n g zero l b = omega (arith, b.0)
      none_bad n g (suc k) l b = not_bad_at (suc k) (frame gs rows (suc k)) (frame_is gs named rows (suc k)) (g k l) b

pub first_bad : FirstBad
first_bad gs p d named within rows b =
    let none = none_bad gs p within named rows in
    ⊎_elim
    (λ r.
    let size : suc r.0 ≤ length rows =
    ⊎_elim (λ l. absurd (none r.0 r.3 b.0 (omega arith) b.2)) (λ l. omega (arith, b.2.1)) (cases_lt b.0 (suc r.0)) in
    let here : BadAt gs p rows (suc r.0) = (omega arith, size, (frame gs rows (suc r.0), frame_is gs named rows (suc r.0), r.2)) in
    (suc r.0, r.1, here, λ j l h. none r.0 r.3 j (omega arith) h))
    (λ g. absurd (none d g b.0 b.1 b.2))
    (find_first (λ i. Bad gs p (frame gs rows (suc i))) (λ i. Good gs p (frame gs rows (suc i))) (λ i. bad_or_good gs p (frame gs rows (suc i))) d)
