use Rattle.std.proofs.Common.{◌≡◌, ℕ, ◌&&◌, [], ◌∷◌, refl, ap, ◌∙◌, rules, tests}
use Rattle.std.specs.List.{list_all}
use Rattle.std.proofs.lemmas.Iterator.{YieldsList-from_slice}
use Rattle.std.proofs.lemmas.Iterator.Search.{all_from_yields_List}
use Rattle.clauses.specs.Clauses.{Clause}
use Rattle.hints.specs.Hints.{fits, all_fit}
use Rattle.hints.proofs.all_fit.Goals as goal

list_all_fits : (V : ℕ) (ls : Clause) → list_all (fits V) ls ≡ all_fit V ls
list_all_fits V [] = refl
list_all_fits V (l ∷ ls) = ap (λ b. fits V l && b) (list_all_fits V ls)

pub returns : goal.returns
returns c =
    let V = c.args.variables in
    let ls = c.args.literals.now in
    let told = all_from_yields_List (fits V) _ _ c.all.result c.all.ensures.ran (YieldsList-from_slice ls cc) (λ x b q k. search (rules, tests)) in
    told ∙ list_all_fits V ls
