-- A run's frames, one after the other.
use Rattle.std.proofs.Common.{◌≡◌, ℕ, zero, suc, ◌-◌, ◌<◌, ◌≤◌, Bool, true, List, [], ◌∷◌, ◌++◌, map, length, get_or, slice_get, Some, Option, vec_items, sym, refl, ap, ◌∙◌, subst, inl, inr, ⊎_elim, arith}
use Rattle.std.proofs.Math.Seq.{get_or-append_seam}
use Rattle.std.proofs.lemmas.List.{length-append, nil_from_length, get_or_append_left}
use Rattle.std.proofs.lemmas.Option.{slice_get-get_or}
use Rattle.std.proofs.lemmas.Bool.{le-leb, cases_lt}
use Rattle.values.specs.Single.{single}
use Rattle.values.specs.declared.single.Value.{Value}
use Rattle.values.specs.Singles.{single_lawful}
use Rattle.boards.specs.declared.board.Board.{Board}
use Rattle.gates.specs.declared.gate.Gate.{Gate}
use Rattle.gates.specs.Gates.{named}
use Rattle.solutions.specs.Solutions.{reads, frame_before}
use Rattle.solutions.specs.Rounds.{frame_row}
use Rattle.solutions.specs.Runs.{bit, Frame, Bad, BadAt}
use Rattle.solutions.specs.Claims.{Named}
use Rattle.solutions.proofs.Rounds.{rounds_end}
use Rattle.solutions.proofs.Frames.{next_frame, frame_only, not_bad_at}
use Rattle.frames.specs.Frames.{frame_given, long_before}
use Rattle.runs.specs.Faults.{Fault, Faultless}
use Rattle.runs.specs.Traces.{HoldsFrames, last_of, Judged}
use Rattle.runs.specs.declared.trace.Verdict.TheVariants as verdict

-- what a board says of itself, of its list of gates
pub own_wires : (b : Board) → Named (vec_items b.gates)
own_wires b = ap (λ n. named n (vec_items b.gates)) (sym b.gates.ok.0) ∙ b.own_wires

pub own_property : (b : Board) → b.property < length (vec_items b.gates)
own_property b = omega (arith, b.gates.ok.0, b.own_property)

pub frame_length : (gs : List Gate) → Named gs → (inputs frame : List Value) (before : Option (List Value)) → frame ≡ frame_row single gs (frame_given single gs inputs before)
    → length frame ≡ length gs
frame_length gs named inputs frame before is = ap length is ∙ (rounds_end single single_lawful gs named (frame_given single gs inputs before)).size

-- The first k frames are worked out, and none is bad.
pub record Reached (gs : List Gate) (p : ℕ) (rows : List (List Bool)) (frames : List (List Value)) (k : ℕ) : Type 0 where
  pub held : HoldsFrames gs rows frames k
  pub good : (j : ℕ) → j ≤ k → BadAt gs p rows j → ⊥

last_at : (frames : List (List Value)) (k : ℕ) → length frames ≡ suc k → last_of frames ≡ Some (get_or frames k [])
last_at frames k e =
    let same : length frames - 1 ≡ k = omega arith in
    ap (slice_get frames) same ∙ slice_get-get_or frames k [] (omega arith)

pub last_is : (gs : List Gate) (rows : List (List Bool)) (frames : List (List Value)) (k : ℕ) → HoldsFrames gs rows frames k → Frame gs rows k (frame_before single (last_of frames))
last_is gs rows frames zero h = subst (λ xs. Frame gs rows 0 (frame_before single (last_of xs))) (sym (nil_from_length frames h.0)) (λ w l. refl)
last_is gs rows frames (suc k) h = subst (λ o. Frame gs rows (suc k) (frame_before single o)) (sym (last_at frames k h.0)) (h.1 k (omega arith)).1

pub last_long : (gs : List Gate) (rows : List (List Bool)) (frames : List (List Value)) (k : ℕ) → HoldsFrames gs rows frames k → long_before (length gs) (last_of frames) ≡ true
last_long gs rows frames zero h = ap (λ xs. long_before (length gs) (last_of xs)) (nil_from_length frames h.0)
last_long gs rows frames (suc k) h =
    ap (long_before (length gs)) (last_at frames k h.0) ∙ le-leb (length gs) (length (get_or frames k [])) (omega (arith, (h.1 k (omega arith)).0))

module _ (gs : List Gate) (p : ℕ) (rows : List (List Bool)) (named : Named gs) (within : p < length gs) (frames : List (List Value)) (k : ℕ) (reached : Reached gs p rows frames k)
    (inputs frame : List Value) (row : inputs ≡ map bit (get_or rows k [])) (is : frame ≡ frame_row single gs (frame_given single gs inputs (last_of frames)))
    (after : List (List Value)) (more : after ≡ frames ++ frame ∷ []) (n : ℕ) (next : n ≡ suc k) where
  size : length frame ≡ length gs
  size = frame_length gs named inputs frame (last_of frames) is

  frame_next : Frame gs rows (suc k) (reads single frame)
  frame_next =
      next_frame gs named rows k (frame_before single (last_of frames)) frame (last_is gs rows frames k reached.held)
      (sym (is ∙ ap (λ xs. frame_row single gs (frame_given single gs xs (last_of frames))) row))

  abbrev IsFrame : List Value → ℕ → Type 0
  IsFrame xs j = (length xs ≡ length gs) × Frame gs rows (suc j) (reads single xs)

  held_more : HoldsFrames gs rows after n
  held_more = (
    ap length more ∙ length-append frames (frame ∷ []) ∙ omega (arith, reached.held.0),
    λ j l.
        subst (λ xs. IsFrame (get_or xs j []) j) (sym more)
        (⊎_elim
        (λ m. subst (λ xs. IsFrame xs j) (sym (get_or_append_left frames (frame ∷ []) [] j (omega (arith, reached.held.0)))) (reached.held.1 j m))
        (λ m.
        let same : j ≡ length frames = omega (arith, reached.held.0) in
        let at_k : k ≡ j = omega arith in
        subst (λ i. IsFrame (get_or (frames ++ frame ∷ []) j []) i) at_k
        (subst (λ xs. IsFrame xs k) (sym (ap (λ i. get_or (frames ++ frame ∷ []) i []) same ∙ get_or-append_seam frames frame [] [])) (size, frame_next)))
        (cases_lt j k)),
  )

  pub reached_more : Faultless (length gs) p (reads single frame) → Reached gs p rows after n
  reached_more h = record {
    held = held_more;
    good = λ j l b.
        ⊎_elim (λ m. reached.good j (omega arith) b)
        (λ m. let same : j ≡ suc k = omega arith in not_bad_at gs p within named rows (suc k) (reads single frame) frame_next h (subst (BadAt gs p rows) same b))
        (cases_lt j (suc k));
  }

  fault_bad : (w : ℕ) → Fault (length gs) p (reads single frame) w → Bad gs p (reads single frame)
  fault_bad w h = ⊎_elim (λ r. inl (w, r.0, r.1)) (λ r. inr r.1) h

  fault_same : (w : ℕ) (f : ℕ → Value) → ((v : ℕ) → v < length gs → reads single frame v ≡ f v) → Fault (length gs) p (reads single frame) w → Fault (length gs) p f w
  fault_same w f same h =
      ⊎_elim (λ r. inl (r.0, sym (same w r.0) ∙ r.1, λ v l e. r.2 v l (same v (omega (arith, r.0)) ∙ e)))
      (λ r. inr (λ v l e. r.0 v l (same v l ∙ e), λ e. r.1 (same p within ∙ e), r.2)) h

  pub judged_bad : (w : ℕ) → k < length rows → Fault (length gs) p (reads single frame) w → HoldsFrames gs rows after n × Judged gs p rows (verdict.Bad n w)
  judged_bad w l h = (
    held_more,
    subst (λ m. Judged gs p rows (verdict.Bad m w)) (sym next) (
      (omega arith, l, (reads single frame, frame_next, fault_bad w h)),
      λ j m. reached.good j (omega arith),
      λ f g. fault_same w f (frame_only gs named rows (suc k) (reads single frame) f frame_next g) h,
    ),
  )

pub judged_good : (gs : List Gate) (p : ℕ) (rows : List (List Bool)) (frames : List (List Value)) (k n : ℕ) → Reached gs p rows frames k → k ≡ length rows → n ≡ k
    → HoldsFrames gs rows frames n × Judged gs p rows (verdict.Good n)
judged_good gs p rows frames k n reached e same =
    subst (λ m. HoldsFrames gs rows frames m × Judged gs p rows (verdict.Good m)) (sym same) (reached.held, (e, λ j b. reached.good j (omega (arith, b.1)) b))
