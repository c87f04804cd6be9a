use Rattle.std.proofs.Common.{Some, ap, ◌∙◌}
use Rattle.values.specs.Sides.{rail1}
use Rattle.clauses.specs.Clauses.{minus}
use Rattle.formulas.specs.Formulas.{rail_var}
use Rattle.sources.proofs.Marks.{row_mark, row_fail, row_past}
use Rattle.sources.proofs.shape.LongClause.literal.Goals as goal

pub returns-then-at-self : goal.returns-then-at-self
returns-then-at-self c =
    let l = c.args.self in
    row_mark c.args.outline.wires c.args.outline.property l.first l.marks l.frame l.frames c.args.at c.if-at-self.true

pub returns-then-past-self : goal.returns-then-past-self
returns-then-past-self c =
    let l = c.args.self in
    let p = c.args.outline.property in
    let f = c.frame-failing in
    ap (λ x. Some (minus x))
    (c.rail.ensures
    ∙ (ap (λ n. rail_var n f.result.before (rail1 p)) f.ensures.wires ∙ ap (λ i. rail_var c.args.outline.wires i (rail1 p)) f.ensures.before))
    ∙ row_fail c.args.outline.wires p l.first l.marks l.frame l.frames c.args.at c.if-at-self.false c.if-past-self.true

pub returns : goal.returns
returns c =
    let l = c.args.self in
    row_past c.args.outline.wires c.args.outline.property l.first l.marks l.frame l.frames c.args.at c.if-at-self.false c.if-past-self.false
