-- A formula's clauses: those of its frames, and then those behind them.
use Rattle.std.proofs.Common.{◌≡◌, ℕ, ◌+◌, ◌-◌, ◌<◌, ◌≤◌, List, ◌++◌, length, Option, sym, ap, ◌∙◌, subst, arith, length-append}
use Rattle.std.specs.List.{slice_get}
use Rattle.boards.specs.Sheets.{Sheet}
use Rattle.clauses.specs.Clauses.{Clause, across}
use Rattle.clauses.proofs.Blocks.{nth_left, nth_right}
use Rattle.formulas.specs.declared.kind.FormulaKind.{FormulaKind}
use Rattle.formulas.specs.declared.kind.FormulaKind.TheVariants.{Base, Step}
use Rattle.formulas.specs.Kinds.{starts}
use Rattle.formulas.specs.Formulas.{frame_clauses}
use Rattle.std.specs.Option.{option_map}
use Rattle.sources.specs.declared.shape.Shape.{Shape}
use Rattle.sources.specs.Places.{frame_place, frames_of, clause_of, base_tail}
use Rattle.sources.specs.Meaning.{formula_clauses, tail_of}
use Rattle.sources.proofs.FrameBlocks.{frames_length}
use Rattle.sources.proofs.Base.{base_is}
use Rattle.sources.proofs.Steps.{step_is}

abbrev front : FormulaKind → Sheet → List Clause
front k s = across (frames_of k s.depth) (frame_clauses (starts k) s.gates)

clauses_are : (k : FormulaKind) (s : Sheet) → formula_clauses k s ≡ front k s ++ tail_of k s
clauses_are Base s = base_is s.gates s.property s.depth
clauses_are Step s = step_is s.gates s.property s.depth

pub frames_few : (k : FormulaKind) (d : ℕ) → d ≤ 8 → frames_of k d ≤ 9
frames_few Base d h = omega arith
frames_few Step d h = omega arith

module _ (k : FormulaKind) (s : Sheet) where
  front_length : length (front k s) ≡ frame_place (starts k) s.gates (frames_of k s.depth)
  front_length = frames_length (starts k) s.gates (frames_of k s.depth)

  pub counted : (frames tail : ℕ) → frames ≡ frame_place (starts k) s.gates (frames_of k s.depth) → tail ≡ length (tail_of k s) → frames + tail ≡ length (formula_clauses k s)
  counted frames tail f t =
      let a = front_length in
      let b = ap length (clauses_are k s) ∙ length-append (front k s) (tail_of k s) in
      omega (arith, a, b)

  module _ (frames j : ℕ) (o : Option Clause) (f : frames ≡ frame_place (starts k) s.gates (frames_of k s.depth)) where
    pub in_front : j < frames → o ≡ slice_get (front k s) j → o ≡ slice_get (formula_clauses k s) j
    in_front h said =
        let long = front_length in
        said ∙ (sym (nth_left (front k s) (tail_of k s) j (omega arith)) ∙ ap (λ x. slice_get x j) (sym (clauses_are k s)))

    pub in_tail : frames ≤ j → o ≡ slice_get (tail_of k s) (j - frames) → o ≡ slice_get (formula_clauses k s) j
    in_tail h said =
        let long = front_length ∙ sym f in
        said ∙ (ap (λ x. slice_get (tail_of k s) (j - x)) (sym long)
        ∙ (sym (nth_right (front k s) (tail_of k s) j (omega (arith, long))) ∙ ap (λ x. slice_get x j) (sym (clauses_are k s))))

-- the code's way to the tail of the base
pub base_tail_at : (k : FormulaKind) (s : Sheet) (n p d j : ℕ) (o : Option Shape) → k ≡ Base → n ≡ length s.gates → p ≡ s.property → d ≡ s.depth
    → option_map (clause_of n p) o ≡ slice_get (base_tail n p d) j → option_map (clause_of (length s.gates) s.property) o ≡ slice_get (tail_of k s) j
base_tail_at k s n p d j o kind a b c said =
    let e = subst (λ m. option_map (clause_of m p) o ≡ slice_get (base_tail m p d) j) a said in
    let f = subst (λ m. option_map (clause_of (length s.gates) m) o ≡ slice_get (base_tail (length s.gates) m d) j) b e in
    f ∙ (ap (λ m. slice_get (base_tail (length s.gates) s.property m) j) c ∙ ap (λ m. slice_get (tail_of m s) j) (sym kind))
