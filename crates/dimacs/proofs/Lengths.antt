-- How long the clauses of a formula are, and its text.
use Rattle.std.proofs.Common.{◌≡◌, ℕ, zero, suc, ◌+◌, ◌*◌, ◌≤◌, Bool, true, false, List, [], ◌∷◌, ◌++◌, length, ℤ, pos, negsuc, codes, refl, ◌∙◌, mul-le-mul, arith, length-append, ◌<◌, ◌^◌}
use Rattle.std.specs.List.{AllByRecursion as AllOf}
use Rattle.std.specs.List.{flat_map}
use Rattle.std.proofs.ByRecursion.{All-append}
use Rattle.std.proofs.lemmas.Fmt.{length-decimal-le}
use Rattle.values.specs.Sides.{Rail, rail0, rail1, Right, fixed, one, either, both, two_boths}
use Rattle.gates.specs.declared.gate.Gate.{Gate}
use Rattle.boards.proofs.Closed.{board_few, board_own}
use Rattle.boards.specs.Sheets.{sheet}
use Rattle.clauses.specs.Clauses.{Clause, variable, Over, plus, minus, across}
use Rattle.clauses.proofs.Across.{all_across}
use Rattle.clauses.proofs.Blocks.{length_uniform}
use Rattle.formulas.specs.Drives.{Drive, input, register, settled, driver}
use Rattle.formulas.specs.Formulas.{rail_var, base_mark, step_mark, difference_mark, equation, apart, defined, held, driven, frame_clauses, mark_clauses, base_frames, base_marks, base_bad, base, step_frames, good_frame, step_good, step_bad, on_register, differs, pair_clauses, step_pairs, step}
use Rattle.sources.specs.declared.formula.Formula.{Formula}
use Rattle.formulas.specs.declared.kind.FormulaKind.{FormulaKind}
use Rattle.formulas.specs.declared.kind.FormulaKind.TheVariants.{Base, Step}
use Rattle.sources.specs.Meaning.{formula_clauses, formula_variables, variables_of, clauses_of}
use Rattle.formulas.proofs.Overs.{base_over, step_over}
use Rattle.decimals.specs.Decimals.{text_of}
use Rattle.dimacs.specs.Dimacs.{sign, literal_text, spaced, clause_text, header}
use Rattle.dimacs.specs.Texts.{formula_text}

-- a list with one element for each index
singles_length : {A : Type 0} (n : ℕ) (f : ℕ → A) → length (across n (λ w. f w ∷ [])) ≡ n
singles_length n f = length_uniform (λ w. f w ∷ []) 1 (omega arith) (λ w. refl) n ∙ omega arith

register_length : {A : Type 0} (g : Drive) (x : A) → length (on_register g (x ∷ [])) ≤ 1
register_length input x = omega arith
register_length (register y) x = omega arith
register_length (settled s) x = omega arith

registers_length : {A : Type 0} (n : ℕ) (g : ℕ → Drive) (f : ℕ → A) → length (across n (λ w. on_register (g w) (f w ∷ []))) ≤ n
registers_length zero g f = omega arith
registers_length (suc n) g f =
    omega (arith, registers_length n g f, register_length (g n) (f n), length-append (across n (λ w. on_register (g w) (f w ∷ []))) (on_register (g n) (f n ∷ [])))

-- Clauses of m literals at most.
module _ (m : ℕ) (three : 3 ≤ m) where
  abbrev Short : Clause → Type 0
  Short c = length c ≤ m

  equation_short : (x : Rail ℕ → ℕ) (a : ℕ) (b : Right ℕ) → AllOf Short (equation x a b)
  equation_short x a (fixed t) = (omega arith, tt)
  equation_short x a (one b) = (omega arith, (omega arith, tt))
  equation_short x a (either b c) = (omega arith, (omega arith, (omega arith, tt)))
  equation_short x a (both b c) = (omega arith, (omega arith, (omega arith, tt)))
  equation_short x a (two_boths b c e f) = (omega arith, (omega arith, (omega arith, (omega arith, (omega arith, (omega arith, tt))))))

  held_short : (starts : Bool) (n i w y : ℕ) → AllOf Short (held starts n i w y)
  held_short true n zero w y = (omega arith, tt)
  held_short false n zero w y = tt
  held_short starts n (suc i) w y = equation_short (rail_var n i) (rail_var n (suc i) (rail0 w)) (one (rail0 y))

  driven_short : (starts : Bool) (n i w : ℕ) (g : Drive) → AllOf Short (driven starts n i w g)
  driven_short starts n i w input = (omega arith, tt)
  driven_short starts n i w (register y) = (omega arith, held_short starts n i w y)
  driven_short starts n i w (settled s) =
      All-append Short (equation (rail_var n i) (rail_var n i (rail0 w)) s.side0) (equation (rail_var n i) (rail_var n i (rail1 w)) s.side1)
      (equation_short (rail_var n i) (rail_var n i (rail0 w)) s.side0) (equation_short (rail_var n i) (rail_var n i (rail1 w)) s.side1)

  frames_short : (starts : Bool) (gs : List Gate) (frames : ℕ) → AllOf Short (across frames (frame_clauses starts gs))
  frames_short starts gs frames =
      all_across Short frames (frame_clauses starts gs)
      (λ i _. all_across Short (length gs) (λ w. apart (length gs) i w ∷ driven starts (length gs) i w (driver gs w))
      (λ w _. (omega arith, driven_short starts (length gs) i w (driver gs w))))

  marks_short : (n i : ℕ) (u : ℕ → ℕ) → AllOf Short (mark_clauses n i u)
  marks_short n i u =
      all_across Short n (λ w. (minus (u w) ∷ minus (rail_var n i (rail0 w)) ∷ []) ∷ (minus (u w) ∷ minus (rail_var n i (rail1 w)) ∷ []) ∷ [])
      (λ w _. (omega arith, (omega arith, tt)))

  register_short : (g : Drive) (cs : List Clause) → AllOf Short cs → AllOf Short (on_register g cs)
  register_short input cs h = tt
  register_short (register y) cs h = h
  register_short (settled s) cs h = tt

  module _ (gs : List Gate) (p d : ℕ) where
    abbrev n : ℕ
    n = length gs

    base_bad_length : length (base_bad n p d) ≡ d * n + d
    base_bad_length =
        length-append (across d (λ i. across n (λ w. plus (base_mark n d i w) ∷ []))) (across d (λ i. minus (rail_var n i (rail1 p)) ∷ []))
        ∙ omega (arith, rows d, singles_length d (λ i. minus (rail_var n i (rail1 p))))
      where
        rows : (k : ℕ) → length (across k (λ i. across n (λ w. plus (base_mark n d i w) ∷ []))) ≡ k * n
        rows zero = omega arith
        rows (suc k) =
            length-append (across k (λ i. across n (λ w. plus (base_mark n d i w) ∷ []))) (across n (λ w. plus (base_mark n d k w) ∷ []))
            ∙ omega (arith, rows k, singles_length n (λ w. plus (base_mark n d k w)))

    base_short : d * n + d ≤ m → AllOf Short (base gs p d)
    base_short h =
        All-append Short (base_frames gs d ++ base_marks n d) (base_bad n p d ∷ [])
        (All-append Short (base_frames gs d) (base_marks n d) (frames_short true gs d) (all_across Short d (λ i. mark_clauses n i (base_mark n d i)) (λ i _. marks_short n i (base_mark n d i))))
        (omega (arith, base_bad_length), tt)

    good_short : (i : ℕ) → AllOf Short (good_frame n p i)
    good_short i =
        All-append Short (across n (λ w. defined n i w ∷ [])) ((plus (rail_var n i (rail1 p)) ∷ []) ∷ [])
        (all_across Short n (λ w. defined n i w ∷ []) (λ w _. (omega arith, tt))) (omega arith, tt)

    step_bad_length : length (step_bad n p d) ≡ n + 1
    step_bad_length =
        length-append (across n (λ w. plus (step_mark n d w) ∷ [])) (minus (rail_var n d (rail1 p)) ∷ []) ∙ omega (arith, singles_length n (λ w. plus (step_mark n d w)))

    pair_short : n + 1 ≤ m → (i j : ℕ) → AllOf Short (pair_clauses gs d i j)
    pair_short h i j =
        All-append Short (across n (λ w. on_register (driver gs w) (differs n i j w (difference_mark gs d i j w))))
        (across n (λ w. on_register (driver gs w) (plus (difference_mark gs d i j w) ∷ [])) ∷ [])
        (all_across Short n (λ w. on_register (driver gs w) (differs n i j w (difference_mark gs d i j w)))
        (λ w _. register_short (driver gs w) (differs n i j w (difference_mark gs d i j w)) (omega arith, (omega arith, tt))))
        (omega (arith, registers_length n (driver gs) (λ w. plus (difference_mark gs d i j w))), tt)

    step_short : n + 1 ≤ m → AllOf Short (step gs p d)
    step_short h =
        let a = step_frames gs d in
        let b = step_good n p d in
        let c = mark_clauses n d (step_mark n d) in
        let e = step_bad n p d ∷ [] in
        All-append Short (a ++ b ++ c ++ e) (step_pairs gs d)
        (All-append Short (a ++ b ++ c) e
        (All-append Short (a ++ b) c
        (All-append Short a b (frames_short false gs (d + 1)) (all_across Short d (good_frame n p) (λ i _. good_short i)))
        (marks_short n d (step_mark n d))) (omega (arith, step_bad_length), tt))
        (all_across Short (d + 1) (λ j. across j (λ i. pair_clauses gs d i j)) (λ j _. all_across Short j (λ i. pair_clauses gs d i j) (λ i _. pair_short h i j)))

all_short : (kind : FormulaKind) (f : Formula) → AllOf (λ c. length c ≤ 2056) (formula_clauses kind (sheet f.board))
all_short Base f =
    let gs = (sheet f.board).gates in
    let d = (sheet f.board).depth in
    base_short 2056 (omega arith) gs (sheet f.board).property d
    (omega (arith, mul-le-mul f.board.shallow (board_few f.board), f.board.shallow))
all_short Step f =
    let gs = (sheet f.board).gates in
    step_short 2056 (omega arith) gs (sheet f.board).property (sheet f.board).depth (omega (arith, board_few f.board))

all_over : (kind : FormulaKind) (f : Formula) → Over (formula_variables kind (sheet f.board)) (formula_clauses kind (sheet f.board))
all_over Base f = base_over (sheet f.board).gates (sheet f.board).property (sheet f.board).depth (board_own f.board) (omega (arith, f.board.gates.ok.0, f.board.own_property))
all_over Step f = step_over (sheet f.board).gates (sheet f.board).property (sheet f.board).depth (board_own f.board) (omega (arith, f.board.gates.ok.0, f.board.own_property))

sign_short : (l : ℤ) → length (sign l) ≤ 1
sign_short (pos x) = omega arith
sign_short (negsuc x) = omega arith

digits_short : (n : ℕ) → n < 2 ^ 32 → length (text_of n) ≤ 10
digits_short n h = length-decimal-le 10 n (omega arith) (omega arith) (omega arith)

-- Texts over V variables.
module _ (V : ℕ) (few : V ≤ 65535) where
  spaced_short : (l : ℤ) → variable l ≤ V → length (spaced l) ≤ 12
  spaced_short l h =
      omega (arith, sign_short l, digits_short (variable l) (omega arith), length-append (literal_text l) (codes " "), length-append (sign l) (text_of (variable l)))

  row_short : (c : Clause) → AllOf (λ l. (0 < variable l) × (variable l ≤ V)) c → length (flat_map spaced c) ≤ 12 * length c
  row_short [] over = omega arith
  row_short (l ∷ c) over = omega (arith, spaced_short l over.0.1, row_short c over.1, length-append (spaced l) (flat_map spaced c))

  lines_short : (cs : List Clause) → Over V cs → AllOf (λ c. length c ≤ 2056) cs → length (flat_map clause_text cs) ≤ 30000 * length cs
  lines_short [] over short = omega arith
  lines_short (c ∷ cs) over short =
      omega (arith, row_short c over.0, short.0, lines_short cs over.1 short.1, length-append (flat_map spaced c) (codes "0\n"), length-append (clause_text c) (flat_map clause_text cs))

  header_short : (C : ℕ) → C < 2 ^ 32 → length (header V C) ≤ 28
  header_short C h =
      omega (arith, digits_short V (omega arith), digits_short C h, length-append (text_of V) (codes " " ++ (text_of C ++ codes "\n")), length-append (text_of C) (codes "\n"))

pub text_short : (f : Formula) → variables_of f ≤ 65535 → length (clauses_of f) ≤ 5000000 → length (formula_text f) < 2 ^ 64
text_short f few small =
    omega (
      arith,
      header_short (variables_of f) few (length (clauses_of f)) (omega arith),
      lines_short (variables_of f) few (clauses_of f) (all_over f.kind f) (all_short f.kind f),
      length-append (header (variables_of f) (length (clauses_of f))) (flat_map clause_text (clauses_of f)),
    )
