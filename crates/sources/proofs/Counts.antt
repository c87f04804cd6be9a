-- How many clauses the formulas have behind their frames.
use Rattle.std.proofs.Common.{◌≡◌, ℕ, ◌+◌, ◌*◌, ◌++◌, length, sym, ap, ◌∙◌, arith, length-append}
use Rattle.boards.specs.Sheets.{Sheet}
use Rattle.formulas.specs.declared.kind.FormulaKind.TheVariants.{Base, Step}
use Rattle.formulas.specs.Formulas.{step_good, step_pairs, pairs_before}
use Rattle.sources.specs.Rows.{registers_before}
use Rattle.sources.specs.Places.{step_middle}
use Rattle.sources.specs.Meaning.{tail_of}
use Rattle.sources.proofs.Marks.{tail_length}
use Rattle.sources.proofs.Between.{good_length, middle_length}
use Rattle.sources.proofs.PairBlocks.{pairs_length}

module _ (s : Sheet) where
  pub base_counted : (n d : ℕ) → n ≡ length s.gates → d ≡ s.depth → 2 * (n * d) + 1 ≡ length (tail_of Base s)
  base_counted n d a b = ap (λ x. 2 * (x * d) + 1) a ∙ (ap (λ x. 2 * (length s.gates * x) + 1) b ∙ sym (tail_length (length s.gates) s.depth s.property))

  step_length : length (tail_of Step s) ≡ s.depth * (length s.gates + 1) + (2 * length s.gates + 1) + pairs_before (s.depth + 1) * (2 * registers_before s.gates (length s.gates) + 1)
  step_length =
      let n = length s.gates in
      let good = good_length n s.property s.depth in
      let middle = middle_length n s.property s.depth in
      let pairs = pairs_length s.gates s.depth in
      let outer = length-append (step_good n s.property s.depth) (step_middle n s.property s.depth ++ step_pairs s.gates s.depth) in
      let inner = length-append (step_middle n s.property s.depth) (step_pairs s.gates s.depth) in
      omega (arith, good, middle, pairs, outer, inner)

  pub step_counted : (n d m q : ℕ) → n ≡ length s.gates → d ≡ s.depth → m ≡ registers_before s.gates (length s.gates) → q ≡ pairs_before (d + 1)
      → d * (n + 1) + (2 * n + 1) + q * (2 * m + 1) ≡ length (tail_of Step s)
  step_counted n d m q a b e p =
      let pairs : q ≡ pairs_before (s.depth + 1) = p ∙ ap (λ x. pairs_before (x + 1)) b in
      ap (λ x. d * (n + 1) + (2 * n + 1) + x * (2 * m + 1)) pairs
      ∙ (ap (λ x. x * (n + 1) + (2 * n + 1) + pairs_before (s.depth + 1) * (2 * m + 1)) b
      ∙ (ap (λ x. s.depth * (x + 1) + (2 * x + 1) + pairs_before (s.depth + 1) * (2 * m + 1)) a
      ∙ (ap (λ x. s.depth * (length s.gates + 1) + (2 * length s.gates + 1) + pairs_before (s.depth + 1) * (2 * x + 1)) e ∙ sym step_length)))
