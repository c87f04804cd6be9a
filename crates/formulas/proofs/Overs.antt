-- Every literal of the formulas is one of their variables or its negative.
use Rattle.std.proofs.Common.{◌≡◌, ℕ, zero, suc, ◌+◌, ◌*◌, ◌<◌, ◌≤◌, Bool, true, false, List, [], ◌∷◌, ◌++◌, length, get_or, refl, arith}
use Rattle.std.specs.List.{AllByRecursion as AllOf}
use Rattle.std.proofs.lemmas.Nat.{mul-add-lt}
use Rattle.std.proofs.ByRecursion.{All-append}
use Rattle.values.specs.Sides.{Rail, rail0, rail1, Right, fixed, one, either, both, two_boths, Sides}
use Rattle.gates.specs.declared.gate.Gate.{Gate}
use Rattle.gates.specs.declared.gate.Gate.TheVariants.{Input, Zero, One, Copy, Not, And, Or, Implies, Xor, Register}
use Rattle.gates.specs.Gates.{named, is_register, rank}
use Rattle.gates.proofs.Names.{wires_below}
use Rattle.gates.proofs.Counting.{rank_up}
use Rattle.clauses.specs.Clauses.{Over, plus, minus, across}
use Rattle.clauses.proofs.Across.{all_across}
use Rattle.clauses.proofs.Variables.{Within}
use Rattle.formulas.specs.Drives.{Drive, input, register, settled, drive, driver}
use Rattle.formulas.specs.Formulas.{rail_var, base_mark, step_mark, register_count, pairs_before, difference_mark, base_variables, step_variables, equation, apart, defined, held, driven, frame_clauses, mark_clauses, base_frames, base_marks, base_bad, step_frames, good_frame, step_good, step_bad, on_register, differs, pair_clauses, step_pairs}
use Rattle.formulas.specs.Claims.{BaseOver, StepOver}
use Rattle.formulas.proofs.Uses.{wire, Uses, DrivesBelow, drives_below}
use Rattle.formulas.proofs.Pairs.{pair_below}

equation_over : (n V a : ℕ) (x : Rail ℕ → ℕ) → a < V → ((r : Rail ℕ) → wire r < n → x r < V) → (b : Right ℕ) → Uses n b → Over V (equation x a b)
equation_over n V a x l h (fixed true) u = omega arith
equation_over n V a x l h (fixed false) u = omega arith
equation_over n V a x l h (one b) u = let k = h b u in omega arith
equation_over n V a x l h (either b c) u = let k = h b u.0 in let j = h c u.1 in omega arith
equation_over n V a x l h (both b c) u = let k = h b u.0 in let j = h c u.1 in omega arith
equation_over n V a x l h (two_boths b c e f) u =
    let k = h b u.0 in
    let j = h c u.1 in
    let i = h e u.2 in
    let g = h f u.3 in
    (omega arith, (omega arith, (omega arith, (omega arith, (omega arith, (omega arith, tt))))))

rail_below : (n frames i : ℕ) → i < frames → (r : Rail ℕ) → wire r < n → rail_var n i r < 2 * n * frames
rail_below n frames i l (rail0 w) h = let k : 2 * w < 2 * n = omega arith in omega (arith, mul-add-lt i (2 * n) (2 * w) frames l k)
rail_below n frames i l (rail1 w) h = let k : 2 * w + 1 < 2 * n = omega arith in omega (arith, mul-add-lt i (2 * n) (2 * w + 1) frames l k)

-- what holds of a list at a register
on_register_all : {X : Type 0} (P : X → Type 0) (g : Gate) (c : List X) → (is_register g ≡ true → AllOf P c) → AllOf P (on_register (drive g) c)
on_register_all P Input c h = tt
on_register_all P Zero c h = tt
on_register_all P One c h = tt
on_register_all P (Copy y) c h = tt
on_register_all P (Not y) c h = tt
on_register_all P (And y z) c h = tt
on_register_all P (Or y z) c h = tt
on_register_all P (Implies y z) c h = tt
on_register_all P (Xor y z) c h = tt
on_register_all P (Register y) c h = h refl

module _ (gs : List Gate) (own : named (length gs) gs ≡ true) (frames V : ℕ) (room : 2 * length gs * frames ≤ V) where
  in_frame : (i : ℕ) → i < frames → (r : Rail ℕ) → wire r < length gs → rail_var (length gs) i r < V
  in_frame i l r h = let k = rail_below (length gs) frames i l r h in omega arith

  held_over : (starts : Bool) (i : ℕ) → i < frames → (w y : ℕ) → w < length gs → y < length gs → Over V (held starts (length gs) i w y)
  held_over true zero l w y h k =
      equation_over (length gs) V (rail_var (length gs) 0 (rail0 w)) (rail_var (length gs) 0) (in_frame 0 l (rail0 w) h) (in_frame 0 l) (fixed true) tt
  held_over false zero l w y h k = tt
  held_over starts (suc i) l w y h k =
      equation_over (length gs) V (rail_var (length gs) (suc i) (rail0 w)) (rail_var (length gs) i) (in_frame (suc i) l (rail0 w) h) (in_frame i (omega arith)) (one (rail0 y)) k

  sides_over : (i : ℕ) → i < frames → (w : ℕ) → w < length gs → (s : Sides ℕ) → DrivesBelow (length gs) (settled s) → (starts : Bool) → Over V (driven starts (length gs) i w (settled s))
  sides_over i l w h s u starts =
      All-append (AllOf (Within V)) (equation (rail_var (length gs) i) (rail_var (length gs) i (rail0 w)) s.side0) (equation (rail_var (length gs) i) (rail_var (length gs) i (rail1 w)) s.side1)
      (equation_over (length gs) V (rail_var (length gs) i (rail0 w)) (rail_var (length gs) i) (in_frame i l (rail0 w) h) (in_frame i l) s.side0 u.0)
      (equation_over (length gs) V (rail_var (length gs) i (rail1 w)) (rail_var (length gs) i) (in_frame i l (rail1 w) h) (in_frame i l) s.side1 u.1)

  driven_over : (starts : Bool) (i : ℕ) → i < frames → (w : ℕ) → w < length gs → (g : Drive) → DrivesBelow (length gs) g → Over V (driven starts (length gs) i w g)
  driven_over starts i l w h input u = let a = in_frame i l (rail0 w) h in let b = in_frame i l (rail1 w) h in omega arith
  driven_over starts i l w h (register y) u =
      let a = in_frame i l (rail0 w) h in
      let b = in_frame i l (rail1 w) h in
      (omega arith, held_over starts i l w y h u)
  driven_over starts i l w h (settled s) u = sides_over i l w h s u starts

  frame_over : (starts : Bool) (i : ℕ) → i < frames → Over V (frame_clauses starts gs i)
  frame_over starts i l =
      all_across (AllOf (Within V)) (length gs) (λ w. apart (length gs) i w ∷ driven starts (length gs) i w (driver gs w))
      (λ w h.
      let a = in_frame i l (rail0 w) h in
      let b = in_frame i l (rail1 w) h in
      (omega arith, driven_over starts i l w h (driver gs w) (drives_below (length gs) (get_or gs w Input) (wires_below gs own w h))))

  marks_over : (i : ℕ) → i < frames → (u : ℕ → ℕ) → ((w : ℕ) → w < length gs → u w < V) → Over V (mark_clauses (length gs) i u)
  marks_over i l u k =
      all_across (AllOf (Within V)) (length gs) (λ w. (minus (u w) ∷ minus (rail_var (length gs) i (rail0 w)) ∷ []) ∷ (minus (u w) ∷ minus (rail_var (length gs) i (rail1 w)) ∷ []) ∷ [])
      (λ w h. let a = in_frame i l (rail0 w) h in let b = in_frame i l (rail1 w) h in let c = k w h in omega arith)

pub base_over : BaseOver
base_over gs p d own within =
    let n = length gs in
    let V = base_variables gs d in
    let room : 2 * length gs * d ≤ V = omega arith in
    let mark : (i : ℕ) → i < d → (w : ℕ) → w < length gs → base_mark (length gs) d i w < V =
    λ i l w h. omega (arith, mul-add-lt i (length gs) w d l h) in
    All-append (AllOf (Within V)) (base_frames gs d ++ base_marks (length gs) d) (base_bad (length gs) p d ∷ [])
    (All-append (AllOf (Within V)) (base_frames gs d) (base_marks (length gs) d)
    (all_across (AllOf (Within V)) d (frame_clauses true gs) (frame_over gs own d V room true))
    (all_across (AllOf (Within V)) d (λ i. mark_clauses (length gs) i (base_mark (length gs) d i)) (λ i l. marks_over gs own d V room i l (base_mark (length gs) d i) (mark i l)))) (
      All-append (Within V) (across d (λ i. across (length gs) (λ w. plus (base_mark (length gs) d i w) ∷ []))) (across d (λ i. minus (rail_var (length gs) i (rail1 p)) ∷ []))
          (all_across (Within V) d (λ i. across (length gs) (λ w. plus (base_mark (length gs) d i w) ∷ []))
          (λ i l. all_across (Within V) (length gs) (λ w. plus (base_mark (length gs) d i w) ∷ []) (λ w h. let k = mark i l w h in omega arith)))
          (all_across (Within V) d (λ i. minus (rail_var (length gs) i (rail1 p)) ∷ []) (λ i l. let k = in_frame gs own d V room i l (rail1 p) within in omega arith)),
      tt,
    )

module _ (gs : List Gate) (p d : ℕ) (own : named (length gs) gs ≡ true) (within : p < length gs) where
  abbrev V : ℕ
  V = step_variables gs d

  rail : (i : ℕ) → i < d + 1 → (r : Rail ℕ) → wire r < length gs → rail_var (length gs) i r < V
  rail = in_frame gs own (d + 1) V (omega arith)

  mark : (w : ℕ) → w < length gs → step_mark (length gs) d w < V
  mark w h = omega arith

  difference : (i j w : ℕ) → i < j → j < d + 1 → w < length gs → is_register (get_or gs w Input) ≡ true → difference_mark gs d i j w < V
  difference i j w l h k t =
      omega (arith, mul-add-lt (pairs_before j + i) (register_count gs) (rank is_register gs w) (pairs_before (d + 1)) (pair_below i j d l h) (rank_up is_register gs (length gs) w k (omega arith) t))

  good_over : (i : ℕ) → i < d → Over V (good_frame (length gs) p i)
  good_over i l =
      All-append (AllOf (Within V)) (across (length gs) (λ w. defined (length gs) i w ∷ [])) ((plus (rail_var (length gs) i (rail1 p)) ∷ []) ∷ [])
      (all_across (AllOf (Within V)) (length gs) (λ w. defined (length gs) i w ∷ [])
      (λ w h. let x = rail i (omega arith) (rail0 w) h in let y = rail i (omega arith) (rail1 w) h in omega arith))
      (let x = rail i (omega arith) (rail1 p) within in omega arith)

  bad_over : AllOf (Within V) (step_bad (length gs) p d)
  bad_over =
      All-append (Within V) (across (length gs) (λ w. plus (step_mark (length gs) d w) ∷ [])) (minus (rail_var (length gs) d (rail1 p)) ∷ [])
      (all_across (Within V) (length gs) (λ w. plus (step_mark (length gs) d w) ∷ []) (λ w h. let k = mark w h in omega arith))
      (let x = rail d (omega arith) (rail1 p) within in omega arith)

  pair_over : (j : ℕ) → j < d + 1 → (i : ℕ) → i < j → Over V (pair_clauses gs d i j)
  pair_over j h i l =
      All-append (AllOf (Within V)) (across (length gs) (λ w. on_register (driver gs w) (differs (length gs) i j w (difference_mark gs d i j w))))
      (across (length gs) (λ w. on_register (driver gs w) (plus (difference_mark gs d i j w) ∷ [])) ∷ [])
      (all_across (AllOf (Within V)) (length gs) (λ w. on_register (driver gs w) (differs (length gs) i j w (difference_mark gs d i j w)))
      (λ w k. on_register_all (AllOf (Within V)) (get_or gs w Input) (differs (length gs) i j w (difference_mark gs d i j w))
      (λ t. let x = difference i j w l h k t in let y = rail i (omega arith) (rail0 w) k in let z = rail j h (rail0 w) k in omega arith))) (
        all_across (Within V) (length gs) (λ w. on_register (driver gs w) (plus (difference_mark gs d i j w) ∷ []))
            (λ w k. on_register_all (Within V) (get_or gs w Input) (plus (difference_mark gs d i j w) ∷ []) (λ t. let x = difference i j w l h k t in omega arith)),
        tt,
      )

  step_all : Over V (step_frames gs d ++ step_good (length gs) p d ++ mark_clauses (length gs) d (step_mark (length gs) d) ++ step_bad (length gs) p d ∷ [] ++ step_pairs gs d)
  step_all =
      let a = step_frames gs d in
      let b = step_good (length gs) p d in
      let c = mark_clauses (length gs) d (step_mark (length gs) d) in
      let e = step_bad (length gs) p d ∷ [] in
      let room : 2 * length gs * (d + 1) ≤ V = omega arith in
      All-append (AllOf (Within V)) (a ++ b ++ c ++ e) (step_pairs gs d)
      (All-append (AllOf (Within V)) (a ++ b ++ c) e
      (All-append (AllOf (Within V)) (a ++ b) c
      (All-append (AllOf (Within V)) a b
      (all_across (AllOf (Within V)) (d + 1) (frame_clauses false gs) (frame_over gs own (d + 1) V room false))
      (all_across (AllOf (Within V)) d (good_frame (length gs) p) good_over))
      (marks_over gs own (d + 1) V room d (omega arith) (step_mark (length gs) d) mark)) (bad_over, tt))
      (all_across (AllOf (Within V)) (d + 1) (λ j. across j (λ i. pair_clauses gs d i j)) (λ j h. all_across (AllOf (Within V)) j (λ i. pair_clauses gs d i j) (pair_over j h)))

pub step_over : StepOver
step_over gs p d own within = step_all gs p d own within
