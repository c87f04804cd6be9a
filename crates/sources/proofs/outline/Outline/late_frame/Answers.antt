use Rattle.std.proofs.Common.{◌+◌, ◌<◌, ◌≤◌, refl, arith, rules}
use Rattle.std.proofs.lemmas.Iterator.{first_from_find, YieldsList-from_range}
use Rattle.formulas.specs.Formulas.{pairs_before}
use Rattle.sources.proofs.LateFrames.{late_found}
use Rattle.sources.proofs.outline.Outline.late_frame.Goals as goal

pub returns : goal.returns
returns c =
    let d = c.args.self.depth in
    let q = c.args.q in
    late_found d q (omega arith) c.find.result
    (first_from_find _ _ c.find.result (λ j. q < pairs_before (j + 1)) (λ j. pairs_before (j + 1) ≤ q) c.find.ensures.ran (YieldsList-from_range 1 (d + 1) d refl (omega arith)) (λ x p k. search rules) (λ x p k. search rules))
