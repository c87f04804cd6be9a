use Rattle.std.proofs.Common.{◌≡◌, Some, None, sym, ap, ◌∙◌, rules}
use Rattle.shelf.specs.Lines.{find}
use Rattle.shelf.proofs.Lines.{map_remove}
use Rattle.store.specs.Rows.{spot}
use Rattle.store.specs.Stores.{lines_of}
use Rattle.store.proofs.Questions.{same_lines}
use Rattle.store.proofs.Storing.{left_all, left_others, spot_inside}
use Rattle.store.proofs.store.Store.strike.Goals as goal

pub returns-in_err-at-clause-lines : goal.returns-in_err-at-clause-lines
returns-in_err-at-clause-lines c =
    let s = c.args.self.now in
    let t = c.find.new.self in
    let absent : None ≡ spot c.args.number (lines_of s) = search rules in
    left_all c.args.number (lines_of s) (lines_of t) absent (same_lines s t c.find.ensures.same)

pub remove-requires : goal.remove-requires
remove-requires c =
    let s = c.args.self.now in
    let t = c.find.new.self in
    let there : Some c.in_ok-at.at ≡ spot c.args.number (lines_of s) = search rules in
    spot_inside c.args.number c.in_ok-at.at (lines_of t) t.rising (there ∙ ap (λ xs. spot c.args.number xs) (sym (same_lines s t c.find.ensures.same)))

pub returns-clause-lines : goal.returns-clause-lines
returns-clause-lines c =
    let s = c.args.self.now in
    let t = c.find.new.self in
    let there : Some c.in_ok-at.at ≡ spot c.args.number (lines_of s) = search rules in
    left_others c.args.number c.in_ok-at.at (lines_of s) (lines_of t) (lines_of c.remove.new.self) s.rising there (same_lines s t c.find.ensures.same) c.remove.ensures.lines

pub returns-clause-map : goal.returns-clause-map
returns-clause-map c =
    let s = c.args.self.now in
    let t = c.find.new.self in
    let there : Some c.in_ok-at.at ≡ spot c.args.number (lines_of s) = search rules in
    let left = left_others c.args.number c.in_ok-at.at (lines_of s) (lines_of t) (lines_of c.remove.new.self) s.rising there (same_lines s t c.find.ensures.same) c.remove.ensures.lines in
    ap find left ∙ map_remove c.args.number (lines_of s)
