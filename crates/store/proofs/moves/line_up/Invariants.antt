use Rattle.std.proofs.Common.{◌≡◌, ◌+◌, ◌++◌, take, drop}
use Rattle.store.specs.Rows.{lengths, lined_up}
use Rattle.store.proofs.moves.line_up.Given as goal

abbrev pub invariant-loop-entry : goal.invariant-loop-entry
invariant-loop-entry l =
    let front = take l.entry-index l.initial.entry-items in
    (l.start ≡ l.from + lengths front) × (l.entry-items ≡ lined_up l.from front ++ drop l.entry-index l.initial.entry-items)
