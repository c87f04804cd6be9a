-- One turn of a run: a row of inputs, the frame before, and what is told of the frame.
use Rattle.std.proofs.Common.{◌≡◌, ℕ, suc, ◌+◌, ◌*◌, ◌<◌, Bool, true, false, List, [], ◌∷◌, ◌++◌, map, length, get_or, Option, Ok, Err, Result, MatchResult, sym, refl, ap, ◌∙◌, subst, add-one, suc-mul, arith}
use Rattle.std.proofs.ByRecursion.{All-get_or}
use Rattle.std.proofs.lemmas.List.{get_or-map, length-append, length-map}
use Rattle.refusals.specs.declared.Failure.{Failure}
use Rattle.refusals.specs.declared.Failure.TheVariants.{Memory}
use Rattle.values.specs.Single.{single, is1}
use Rattle.values.specs.declared.single.Value.{Value}
use Rattle.gates.specs.declared.gate.Gate.{Gate}
use Rattle.boards.specs.Sheets.{Sheet}
use Rattle.solutions.specs.Solutions.{reads}
use Rattle.solutions.specs.Rounds.{frame_row}
use Rattle.solutions.specs.Runs.{bit, input_count}
use Rattle.solutions.specs.Claims.{Named}
use Rattle.frames.specs.Frames.{frame_given}
use Rattle.runs.specs.Faults.{Fault, Faultless}
use Rattle.runs.specs.Inputs.{HoldsRows}
use Rattle.runs.specs.Rows.{Rows}
use Rattle.runs.specs.Tables.{cut}
use Rattle.runs.specs.Traces.{HoldsFrames, last_of, Judged, Found, Traced}
use Rattle.runs.specs.declared.trace.Trace.{Trace}
use Rattle.runs.specs.declared.trace.Verdict.TheVariants as verdict
use Rattle.runs.proofs.Cutting.{cut_more}
use Rattle.runs.proofs.Running.{Reached, frame_length, reached_more, judged_bad}

-- the bits of a row's values
abbrev pub bits_of : List (List Value) → List (List Bool)
bits_of rows = map (map is1) rows

one_of_bit : (b : Bool) → is1 (bit b) ≡ b
one_of_bit true = refl
one_of_bit false = refl

bits_back : (bits : List Bool) → map is1 (map bit bits) ≡ bits
bits_back [] = refl
bits_back (b ∷ bits) = ap (λ x. x ∷ map is1 (map bit bits)) (one_of_bit b) ∙ ap (λ xs. b ∷ xs) (bits_back bits)

pub rows_back : (rows : List (List Bool)) → bits_of (map (map bit) rows) ≡ rows
rows_back [] = refl
rows_back (row ∷ rows) = ap (λ x. x ∷ bits_of (map (map bit) rows)) (bits_back row) ∙ ap (λ xs. row ∷ xs) (rows_back rows)

pub bits_given : (gs : List Gate) (values : List (List Value)) (rows : List (List Bool)) → HoldsRows gs values rows → bits_of values ≡ rows
bits_given gs values rows h = ap bits_of h.1 ∙ rows_back rows

pub traced : (s : Sheet) (bytes : List ℕ) (rows : List (List Bool)) (r : Result Trace Failure) → Rows s.gates s.depth bytes rows → MatchResult r (λ t. Found s rows t) (λ e. e ≡ Memory)
    → Traced s bytes r
traced s bytes rows (Ok t) read found = (rows, read, found)
traced s bytes rows (Err e) read is = subst (λ f. Traced s bytes (Err f)) (sym is) tt

-- what was told of the frame as it was lent
told_at : (T : ℕ → ℕ → (ℕ → Value) → Type 0) (n p q : ℕ) (told frame : List Value) → told ≡ frame → q ≡ p → length frame ≡ n → T (length told) q (reads single told) → T n p (reads single frame)
told_at T n p q told frame e f g h =
    subst (λ m. T m p (reads single frame)) g (subst (λ r. T (length frame) r (reads single frame)) f (subst (λ xs. T (length xs) q (reads single xs)) e h))

-- frames of n values each, one after the other, and one more
module _ (n k : ℕ) (values lent frame after : List Value) (held : length values ≡ k * n) (size : length frame ≡ n) (lent_is : lent ≡ frame) (more : after ≡ values ++ lent) where
  pub length_more : length after ≡ (k + 1) * n
  length_more = ap length more ∙ length-append values lent ∙ omega (arith, held, size, ap length lent_is, suc-mul k n, ap (λ m. m * n) (add-one k))

  pub frames_more : (w : ℕ) → w ≡ n → cut w (k + 1) after ≡ cut n k values ++ frame ∷ []
  frames_more w e =
      ap (λ m. cut m (k + 1) after) e ∙ ap (λ m. cut n m after) (add-one k) ∙ ap (cut n (suc k)) (more ∙ ap (λ xs. values ++ xs) lent_is) ∙ cut_more n k values frame held size

module _ (gs : List Gate) (p : ℕ) (named : Named gs) (within : p < length gs) (rows : List (List Value)) (run : List (List Bool)) (holds : HoldsRows gs rows run)
    (k : ℕ) (inputs : List Value) (l : k < length rows) (is_row : inputs ≡ get_or rows k []) where
  in_run : k < length run
  in_run = omega (arith, ap length holds.1 ∙ length-map run (map bit))

  row : inputs ≡ map bit (get_or run k [])
  row = is_row ∙ ap (λ xs. get_or xs k []) holds.1 ∙ get_or-map (map bit) run k [] [] in_run

  pub row_long : length inputs ≡ input_count gs
  row_long = ap length row ∙ length-map (get_or run k []) bit ∙ All-get_or (λ r. length r ≡ input_count gs) run k [] in_run holds.0

  module _ (frames : List (List Value)) (reached : Reached gs p run frames k) (before : Option (List Value)) (last : before ≡ last_of frames)
      (frame : List Value) (is : frame ≡ frame_row single gs (frame_given single gs inputs before)) (after : List (List Value)) (more : after ≡ frames ++ frame ∷ [])
      (told : List Value) (q : ℕ) (told_is : told ≡ frame) (property : q ≡ p) (n : ℕ) (next : n ≡ suc k) where
    frame_is : frame ≡ frame_row single gs (frame_given single gs inputs (last_of frames))
    frame_is = is ∙ ap (λ o. frame_row single gs (frame_given single gs inputs o)) last

    pub long : length frame ≡ length gs
    long = frame_length gs named inputs frame before is

    pub turn_bad : (w : ℕ) → Fault (length told) q (reads single told) w → HoldsFrames gs run after n × Judged gs p run (verdict.Bad n w)
    turn_bad w h =
        judged_bad gs p run named within frames k reached inputs frame row frame_is after more n next w in_run
        (told_at (λ n r f. Fault n r f w) (length gs) p q told frame told_is property long h)

    pub turn_good : Faultless (length told) q (reads single told) → Reached gs p run after n
    turn_good h =
        reached_more gs p run named within frames k reached inputs frame row frame_is after more n next
        (told_at Faultless (length gs) p q told frame told_is property long h)
