use Rattle.std.proofs.Common.{◌+◌, ◌*◌, length, sym, refl, ap, ◌∙◌}
use Rattle.std.specs.Option.{option_map}
use Rattle.sources.specs.Places.{clause_of}
use Rattle.sources.specs.Meaning.{gates_of, property_of, depth_of}
use Rattle.sources.proofs.PairBlocks.{pair_past, pair_here, pairs_past, nth_pairs}
use Rattle.sources.proofs.formula.Formula.in_pairs.Goals as goal

pub returns-in_err-pair : goal.returns-in_err-pair
returns-in_err-pair c =
    let f = c.args.self.now in
    let past = pair_past _ _ _ c.outline.ensures.depth c.in_err-pair.ensures in
    ap (option_map (clause_of (length (gates_of f)) (property_of f))) c.from_residual.ensures
    ∙ pairs_past (gates_of f) (depth_of f) c.args.k _ _ (ap (λ x. 2 * x + 1) c.register_count.ensures.is) refl past

pub returns : goal.returns
returns c =
    let f = c.args.self.now in
    let pair = pair_here _ _ _ c.in_ok-pair.pair c.outline.ensures.depth c.in_ok-pair.ensures in
    c.in_pair.ensures ∙ sym (nth_pairs (gates_of f) (depth_of f) _ _ c.args.k _ (ap (λ x. 2 * x + 1) c.register_count.ensures.is) pair.0 pair.1 pair.2)
