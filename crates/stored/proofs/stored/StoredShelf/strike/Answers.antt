use Rattle.store.specs.Stores.{lines_of, line_room, literal_room}
use Rattle.stored.proofs.Keeping.{Within, struck, still_holds}
use Rattle.stored.proofs.stored.StoredShelf.strike.Goals as goal

pub invariant_of-self : goal.invariant_of-self
invariant_of-self g c =
    let s = c.args.self.now in
    let cost = g.R.Rule.cost in
    let before : Within cost s.limit (lines_of s.store) = record { each = s.each; sum = s.within } in
    let after = struck cost s.limit c.args.number (lines_of s.store) (lines_of c.strike.new.self) c.strike.ensures.lines before in
    record {
      few = s.few;
      each = after.each;
      within = after.sum;
      roomy = still_holds cost s.limit (line_room s.store) (literal_room s.store) (line_room c.strike.new.self) (literal_room c.strike.new.self) s.roomy c.strike.ensures.room.0 c.strike.ensures.room.1;
    }
