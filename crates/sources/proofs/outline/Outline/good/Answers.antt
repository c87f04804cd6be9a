use Rattle.std.proofs.Common.{◌+◌, ◌%◌, [], ◌∷◌, Some, ap, ◌∙◌}
use Rattle.values.specs.Sides.{rail1}
use Rattle.clauses.specs.Clauses.{plus}
use Rattle.formulas.specs.Formulas.{rail_var, defined}
use Rattle.sources.proofs.Between.{good_wire, good_property}
use Rattle.sources.proofs.outline.Outline.good.Goals as goal

pub returns-then-w-self : goal.returns-then-w-self
returns-then-w-self c =
    let o = c.args.self in
    let f = c.frame-frame in
    let w = c.args.j % (o.wires + 1) in
    ap Some (c.defined.ensures ∙ (ap (λ n. defined n f.result.before w) f.ensures.wires ∙ ap (λ i. defined o.wires i w) f.ensures.before))
    ∙ good_wire o.wires o.property o.depth c.args.j c.requires c.if-w-self.true

pub returns-else-w-self : goal.returns-else-w-self
returns-else-w-self c =
    let o = c.args.self in
    let f = c.frame-frame in
    ap (λ x. Some (plus x ∷ []))
    (c.rail.ensures ∙ (ap (λ n. rail_var n f.result.before (rail1 o.property)) f.ensures.wires ∙ ap (λ i. rail_var o.wires i (rail1 o.property)) f.ensures.before))
    ∙ good_property o.wires o.property o.depth c.args.j c.requires c.if-w-self.false
