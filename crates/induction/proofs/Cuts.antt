-- A run from which the rows between two frames with the same registers are cut.
use Rattle.std.proofs.Common.{◌≡◌, ℕ, zero, suc, ◌+◌, ◌-◌, ◌<◌, ◌≤◌, Bool, true, List, [], ◌++◌, map, length, get_or, take, drop, sym, ap, ◌∙◌, subst, subst₂, add-zero, add-suc, arith, length-append, length-drop, rules}
use Rattle.std.proofs.lemmas.List.{get_or_append_left, get_or-append-add, get_or-take, get_or-drop, length-take-le}
use Rattle.std.proofs.ByRecursion.{All-append, All-take, All-drop}
use Rattle.values.specs.Single.{single}
use Rattle.values.specs.declared.single.Value.{Value}
use Rattle.values.specs.Singles.{single_lawful}
use Rattle.gates.specs.declared.gate.Gate.{Gate}
use Rattle.gates.specs.declared.gate.Gate.TheVariants.{Register}
use Rattle.gates.specs.Gates.{is_input, is_register, rank}
use Rattle.formulas.specs.Drives.{Drive, driver}
use Rattle.formulas.proofs.Uses.{DrivesBelow}
use Rattle.solutions.specs.Solutions.{gate_at, reads, wanted, supplied, given, Least}
use Rattle.solutions.specs.Runs.{bit, input_count, Run, Bad, BadAt}
use Rattle.solutions.specs.Claims.{Named}
use Rattle.solutions.proofs.Leasts.{least_unique, least_given}
use Rattle.solutions.proofs.Frames.{frame, frame_is, bad_same}
use Rattle.induction.proofs.Values.{Read, read}
use Rattle.induction.proofs.Encoding.{below}
use Rattle.induction.proofs.Sequences.{frame_next, solutions_same}

-- only a register reads the frame before
supplied_from : (g : Gate) (x : Value) (b e : ℕ → Value) → ((y : ℕ) → g ≡ Register y → b y ≡ e y) → supplied single g x b ≡ supplied single g x e
supplied_from = search rules

-- what a row and the registers of the frame itself give a frame
abbrev own : List Gate → List Bool → (ℕ → Value) → ℕ → Value
own gs row f w = supplied single (gate_at gs w) (reads single (map bit row) (rank is_input gs w)) (λ y. f w)

own_least : (gs : List Gate) (row : List Bool) (before f : ℕ → Value) → Least single gs (given single gs (map bit row) before) f → Least single gs (own gs row f) f
own_least gs row before f h =
    least_given single gs (given single gs (map bit row) before) (own gs row f)
    (λ w l.
    let x = reads single (map bit row) (rank is_input gs w) in
    supplied_from (gate_at gs w) x before (λ y. f w) (λ y q. sym (subst (λ g. f w ≡ wanted single g (supplied single g x before) f) q (h.solves w l)))) f h

-- frames over the same row, with the same registers
own_same : (gs : List Gate) (row : List Bool) (f g : ℕ → Value) → Least single gs (own gs row f) f → Least single gs (own gs row g) g → ((w : ℕ) → w < length gs → is_register (gate_at gs w) ≡ true → f w ≡ g w) → (w : ℕ) → w < length gs → f w ≡ g w
own_same gs row f g h k same =
    least_unique single single_lawful gs (own gs row g) f g
    (least_given single gs (own gs row f) (own gs row g)
    (λ w l. supplied_from (gate_at gs w) (reads single (map bit row) (rank is_input gs w)) (λ y. f w) (λ y. g w) (λ y q. same w l (ap is_register q))) f h) k

-- registers whose sources are the same
from_source : (n : ℕ) (g : Gate) (k : Drive) → DrivesBelow n k → (b e f h : ℕ → Value) (s t : Value) → Read b f s g k → Read e h t g k →
    (x y : Value) → x ≡ wanted single g (supplied single g s b) f → y ≡ wanted single g (supplied single g t e) h → ((w : ℕ) → w < n → b w ≡ e w) → is_register g ≡ true → x ≡ y
from_source = search rules

module _ (gs : List Gate) (named : Named gs) where
  frame_own : (rows : List (List Bool)) (i : ℕ) → Least single gs (own gs (get_or rows i []) (frame gs rows (suc i))) (frame gs rows (suc i))
  frame_own rows i = own_least gs (get_or rows i []) (frame gs rows i) (frame gs rows (suc i)) (frame_next gs named rows i)

  module _ (rows cut : List (List Bool)) where
    -- where the rows before row x are the same, so are the frames up to there
    before_same : (x : ℕ) → ((j : ℕ) → j < x → get_or cut j [] ≡ get_or rows j []) → (j : ℕ) → j ≤ x → (w : ℕ) → w < length gs → frame gs cut j w ≡ frame gs rows j w
    before_same x h zero l = λ w m. frame_is gs named cut zero w m ∙ sym (frame_is gs named rows zero w m)
    before_same x h (suc j) l =
        solutions_same gs named (get_or cut j []) (get_or rows j []) (frame gs cut j) (frame gs rows j) (frame gs cut (suc j)) (frame gs rows (suc j)) (h j (omega arith))
        (before_same x h j (omega arith)) (frame_next gs named cut j) (frame_next gs named rows j)

    -- and the registers of the next frame
    registers_same : (x : ℕ) → ((j : ℕ) → j < x → get_or cut j [] ≡ get_or rows j []) → (w : ℕ) → w < length gs → is_register (gate_at gs w) ≡ true → frame gs cut (suc x) w ≡ frame gs rows (suc x) w
    registers_same x h w l t =
        let s = reads single (map bit (get_or cut x [])) (rank is_input gs w) in
        let r = reads single (map bit (get_or rows x [])) (rank is_input gs w) in
        let g = gate_at gs w in
        from_source (length gs) g (driver gs w) (below gs named w l) (frame gs cut x) (frame gs rows x) (frame gs cut (suc x)) (frame gs rows (suc x)) s r
        (read (frame gs cut x) (frame gs cut (suc x)) s g) (read (frame gs rows x) (frame gs rows (suc x)) r g) (frame gs cut (suc x) w) (frame gs rows (suc x) w)
        ((frame_next gs named cut x).solves w l) ((frame_next gs named rows x).solves w l) (before_same x h x (omega arith)) t

    -- from equal frames on, equal rows give equal frames
    after_same : (x y : ℕ) → ((t : ℕ) → get_or cut (x + t) [] ≡ get_or rows (y + t) []) → ((w : ℕ) → w < length gs → frame gs cut (suc x) w ≡ frame gs rows (suc y) w) → (t w : ℕ) → w < length gs → frame gs cut (suc (x + t)) w ≡ frame gs rows (suc (y + t)) w
    after_same x y h b zero w l = subst₂ (λ i j. frame gs cut (suc i) w ≡ frame gs rows (suc j) w) (sym (add-zero x)) (sym (add-zero y)) (b w l)
    after_same x y h b (suc t) w l =
        let r : get_or cut (suc (x + t)) [] ≡ get_or rows (suc (y + t)) [] = subst₂ (λ i j. get_or cut i [] ≡ get_or rows j []) (add-suc x t) (add-suc y t) (h (suc t)) in
        subst₂ (λ i j. frame gs cut (suc i) w ≡ frame gs rows (suc j) w) (sym (add-suc x t)) (sym (add-suc y t))
        (solutions_same gs named (get_or cut (suc (x + t)) []) (get_or rows (suc (y + t)) []) (frame gs cut (suc (x + t))) (frame gs rows (suc (y + t))) (frame gs cut (suc (suc (x + t)))) (frame gs rows (suc (suc (y + t)))) r
        (after_same x y h b t) (frame_next gs named cut (suc (x + t))) (frame_next gs named rows (suc (y + t))) w l)

  module _ (p : ℕ) (within : p < length gs) (rows : List (List Bool)) (x y k : ℕ) (l : x < y) (m : y ≤ k) (s : k < length rows) where
    abbrev pub cut : List (List Bool)
    cut = take x rows ++ drop y rows

    front : length (take x rows) ≡ x
    front = length-take-le x rows (omega arith)

    cut_front : (j : ℕ) → j < x → get_or cut j [] ≡ get_or rows j []
    cut_front j h = get_or_append_left (take x rows) (drop y rows) [] j (subst (λ z. j < z) (sym front) h) ∙ get_or-take x rows j [] h

    cut_back : (t : ℕ) → get_or cut (x + t) [] ≡ get_or rows (y + t) []
    cut_back t =
        subst (λ z. get_or (take x rows ++ drop y rows) (z + t) [] ≡ get_or rows (y + t) []) front
        (get_or-append-add (take x rows) (drop y rows) t [] ∙ get_or-drop y rows t [])

    pub cut_run : Run gs rows → Run gs cut
    cut_run h =
        let P : List Bool → Type 0 = λ r. length r ≡ input_count gs in
        All-append P (take x rows) (drop y rows) (All-take P x rows h) (All-drop P y rows h)

    -- the bad frame comes earlier
    pub bad_earlier : ((w : ℕ) → w < length gs → is_register (gate_at gs w) ≡ true → frame gs rows (suc x) w ≡ frame gs rows (suc y) w) → Bad gs p (frame gs rows (suc k)) → BadAt gs p cut (suc (x + (k - y)))
    bad_earlier same b =
        let e : y + (k - y) ≡ k = omega arith in
        let row : get_or cut x [] ≡ get_or rows y [] = subst₂ (λ i j. get_or cut i [] ≡ get_or rows j []) (add-zero x) (add-zero y) (cut_back 0) in
        let here : (w : ℕ) → w < length gs → frame gs cut (suc x) w ≡ frame gs rows (suc y) w =
        own_same gs (get_or rows y []) (frame gs cut (suc x)) (frame gs rows (suc y))
        (subst (λ r. Least single gs (own gs r (frame gs cut (suc x))) (frame gs cut (suc x))) row (frame_own cut x)) (frame_own rows y)
        (λ w n t. registers_same rows cut x cut_front w n t ∙ same w n t) in
        let size : suc (x + (k - y)) ≤ length (take x rows ++ drop y rows) = omega (arith, length-append (take x rows) (drop y rows), front, length-drop y rows) in (
          omega arith,
          size,
          (
            frame gs cut (suc (x + (k - y))),
            frame_is gs named cut (suc (x + (k - y))),
            bad_same gs p within (frame gs rows (suc k)) (frame gs cut (suc (x + (k - y))))
                (λ w n. sym (after_same rows cut x y cut_back here (k - y) w n ∙ ap (λ z. frame gs rows (suc z) w) e)) b,
          ),
        )
