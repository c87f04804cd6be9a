use Rattle.std.proofs.Common.{◌+◌, ◌-◌, ◌≤◌, length, get_or, take, drop, ap, ◌∙◌, arith, rules}
use Rattle.std.proofs.lemmas.List.{take_rest}
use Rattle.store.specs.declared.entry.Entry.{Entry}
use Rattle.store.specs.Rows.{lengths}
use Rattle.store.proofs.Cuts.{lengths_next, lengths_parts}
use Rattle.store.proofs.Shifts.{lined_read, lined_next}
use Rattle.store.proofs.moves.line_up.Goals as goal

pub overflow_add-start : goal.overflow_add-start
overflow_add-start c =
    let ws = c.deref_mut.result.now in
    let es = take (length ws - c.args.at) (drop c.args.at ws) in
    let i = c.loop-entry.entry-index in
    let d : Entry = record { number = 0; start = 0; length = 0 } in
    let h = c.loop-entry-test.true in
    let same = ap (λ (e : Entry). e.length) (lined_read c.args.from es c.loop-entry.entry-items i d h c.loop-entry.invariant.1) in
    let all = ap lengths (take_rest ws c.args.at ∙ ap (drop c.args.at) c.deref_mut.ensures.value) in
    let small : c.loop-entry.start + (get_or c.loop-entry.entry-items i d).length ≤ c.args.from + lengths (drop c.args.at c.args.entries.now.items) =
    omega (arith, lengths_next es i d h, lengths_parts es (i + 1)) in
    search rules

pub loop-entry-preserved : goal.loop-entry-preserved
loop-entry-preserved c =
    let ws = c.deref_mut.result.now in
    let es = take (length ws - c.args.at) (drop c.args.at ws) in
    let i = c.loop-entry.entry-index in
    let d : Entry = record { number = 0; start = 0; length = 0 } in
    let h = c.loop-entry-test.true in
    let same = ap (λ (e : Entry). e.length) (lined_read c.args.from es c.loop-entry.entry-items i d h c.loop-entry.invariant.1) in (
      omega (arith, lengths_next es i d h),
      lined_next c.args.from es c.loop-entry.entry-items i c.loop-entry.start d h c.loop-entry.invariant.0 c.loop-entry.invariant.1,
    )
