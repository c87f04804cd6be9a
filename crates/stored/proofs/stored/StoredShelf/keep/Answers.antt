use Rattle.std.proofs.Common.{◌≡◌, true, length, is_some, is_ok, sym, ◌∙◌}
use Rattle.shelf.specs.Lines.{find, total, affords}
use Rattle.store.specs.Stores.{lines_of, line_room, literal_room, fits}
use Rattle.store.proofs.Storing.{alike, fits_from}
use Rattle.stored.proofs.Keeping.{Within, kept, has_room, still_holds}
use Rattle.stored.proofs.stored.StoredShelf.keep.Goals as goal

pub invariant_of-self : goal.invariant_of-self
invariant_of-self g c =
    let s = c.args.self.now in
    let cost = g.R.Rule.cost in
    let before : Within cost s.limit (lines_of s.store) = record { each = s.each; sum = s.within } in
    let can : affords s.limit (total cost (lines_of s.store)) (cost (length c.args.literals.now)) ≡ true = sym {b = affords s.limit (total cost (lines_of s.store)) (cost (length c.args.literals.now))} c.if-not-has_room.ensures in
    let after = kept cost s.limit c.args.number c.args.literals.now (lines_of s.store) (lines_of c.keep.new.self) (is_ok c.keep.result) can c.keep.ensures.lines before in
    record {
      few = s.few;
      each = after.each;
      within = after.sum;
      roomy = still_holds cost s.limit (line_room s.store) (literal_room s.store) (line_room c.keep.new.self) (literal_room c.keep.new.self) s.roomy c.keep.ensures.room.0 c.keep.ensures.room.1;
    }

pub returns-clause-answer : goal.returns-clause-answer
returns-clause-answer g c =
    let s = c.args.self.now in
    let cost = g.R.Rule.cost in
    let xs = lines_of s.store in
    let k = length c.args.literals.now in
    let can : affords s.limit (total cost xs) (cost k) ≡ true = sym {b = affords s.limit (total cost xs) (cost k)} c.if-not-has_room.ensures in
    let room = has_room cost s.limit (line_room s.store) (literal_room s.store) c.args.literals.now xs s.roomy can s.each in
    c.keep.ensures.answer
    ∙ alike (is_some (find xs c.args.number)) (fits s.store k) (affords s.limit (total cost xs) (cost k)) _ _ (fits_from s.store k room.0 room.1) can
