use Rattle.std.proofs.Common.{sym}
use Rattle.store.specs.Stores.{lines_of}
use Rattle.store.proofs.Places.{rising_from_rises, spot_some}
use Rattle.store.proofs.store.Store.find.Goals as goal

pub returns-then-is_at-clause-answer : goal.returns-then-is_at-clause-answer
returns-then-is_at-clause-answer c =
    let s = c.args.self.now in
    sym (spot_some c.args.number s.memo (lines_of s) (rising_from_rises (lines_of s) s.rising) (sym c.if-is_at.ensures))
