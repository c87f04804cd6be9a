use Rattle.std.proofs.Common.{length, sym, ◌∙◌, arith}
use Rattle.std.proofs.lemmas.List.{ext_get_or, get_or-replicate, length-replicate}
use Rattle.frames.proofs.frame.clear.Goals as goal

pub returns : goal.returns
returns g c =
    let none = g.V.ValueKind.meaning.undefined in
    let size = length-replicate (length c.args.row.now) none in
    ext_get_or none c.loop-value.row _ (c.loop-value.auto.row ∙ sym size)
    (λ i h. c.loop-value.invariant i (omega arith) ∙ sym (get_or-replicate (length c.args.row.now) i none none (omega arith)))
