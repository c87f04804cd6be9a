use Rattle.std.proofs.Common.{length, sym, ap, ◌∙◌}
use Rattle.boards.specs.Sheets.{sheet}
use Rattle.sources.specs.Meaning.{tail_of}
use Rattle.sources.proofs.Counts.{base_counted, step_counted}
use Rattle.sources.proofs.formula.Formula.tail_size.Goals as goal

pub returns-in-Base-clause-is : goal.returns-in-Base-clause-is
returns-in-Base-clause-is c =
    let o = c.outline-outline.ensures in
    base_counted (sheet c.args.self.now.board) _ _ o.wires o.depth ∙ ap (λ k. length (tail_of k (sheet c.args.self.now.board))) (sym c.in-Base.is)

pub returns-in-Step-clause-is : goal.returns-in-Step-clause-is
returns-in-Step-clause-is c =
    let o = c.outline-outline.ensures in
    step_counted (sheet c.args.self.now.board) _ _ _ _ o.wires o.depth c.register_count.ensures.is c.pairs_before-pairs.ensures.is ∙ ap (λ k. length (tail_of k (sheet c.args.self.now.board))) (sym c.in-Step.is)
