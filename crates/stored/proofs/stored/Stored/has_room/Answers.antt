use Rattle.store.specs.Stores.{lines_of}
use Rattle.stored.proofs.stored.Stored.has_room.Goals as goal

pub returns : goal.returns
returns g c = let s = c.args.self.now in rw (← c.capacity.ensures) (c.allows.ensures (lines_of s.store) s.each c.lines.ensures c.literals.ensures)
