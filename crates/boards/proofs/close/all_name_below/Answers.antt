use Rattle.std.proofs.Common.{◌&&◌, refl, ◌∙◌, rules, tests}
use Rattle.std.specs.List.{list_all}
use Rattle.std.proofs.lemmas.Iterator.{YieldsList-from_slice}
use Rattle.std.proofs.lemmas.Iterator.Search.{all_from_yields_List}
use Rattle.std.proofs.lemmas.List.Recursion.{same_from_clauses}
use Rattle.gates.specs.declared.gate.Gate.{Gate}
use Rattle.gates.specs.Gates.{wires, all_below, named}
use Rattle.boards.proofs.close.all_name_below.Goals as goal

pub returns : goal.returns
returns c =
    let n = c.args.wires in
    let gs = c.args.gates.now in
    let test = λ (g : Gate). all_below n (wires g) in
    all_from_yields_List test _ _ c.all.result c.all.ensures.ran (YieldsList-from_slice gs cc) (λ x b q k. search (rules, tests))
    ∙ same_from_clauses (list_all test) (named n) (λ g b. test g && b) refl (λ _ _. refl) (λ _ _. refl) gs
