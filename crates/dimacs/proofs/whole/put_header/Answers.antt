use Rattle.std.proofs.Common.{◌++◌, codes}
use Rattle.decimals.specs.Decimals.{text_of}
use Rattle.dimacs.proofs.whole.put_header.Goals as goal

pub returns : goal.returns
returns g c =
    let then = g.met.S.Sink.then in
    let V = text_of c.args.variables in
    let C = text_of c.args.clauses in
    then _ _ _ (codes "p cnf ") (V ++ (codes " " ++ (C ++ codes "\n"))) c.put.ensures
    (then _ _ _ V (codes " " ++ (C ++ codes "\n")) c.put_decimal.ensures
    (then _ _ _ (codes " ") (C ++ codes "\n") c.put-2.ensures
    (then _ _ _ C (codes "\n") c.put_decimal-2.ensures c.put-3.ensures)))
