use Rattle.std.proofs.Common.{◌+◌, replicate, sym, refl, ap, ◌∙◌, subst, arith, rules}
use Rattle.boards.proofs.Closed.{board_few, board_own}
use Rattle.solutions.specs.Rounds.{same_row}
use Rattle.solutions.proofs.Counting.{Counting, counting_none, counting_bound, counting_more, counting_last}
use Rattle.frames.specs.Given.{gates_of, given_of}
use Rattle.frames.proofs.Sweeping.{few_rounds}
use Rattle.frames.proofs.frame.Given.settle.Goals as goal

pub loop-rounds-init : goal.loop-rounds-init
loop-rounds-init g c =
    let K = g.V.ValueKind.meaning in
    let s = c.args.self.now in
    let row = c.clear.ensures ∙ ap (λ n. replicate n K.undefined) c.requires in
    (0, refl, subst (λ xs. Counting K (gates_of s) (given_of K s) 0 xs) (sym row) (counting_none K g.met.V.ValueKind.lawful (gates_of s) (board_own s.board.now) (given_of K s)))

pub overflow_add-rounds : goal.overflow_add-rounds
overflow_add-rounds g c =
    let K = g.V.ValueKind.meaning in
    let L = g.met.V.ValueKind.lawful in
    let s = c.args.self.now in
    let bound = counting_bound K L (gates_of s) (board_own s.board.now) _ c.loop-rounds.invariant.0 c.loop-rounds.row c.loop-rounds.invariant.2 in
    let few = few_rounds K L (gates_of s) (board_few s.board.now) in
    let is = c.loop-rounds.invariant.1 in
    search rules

pub loop-rounds-smaller : goal.loop-rounds-smaller
loop-rounds-smaller g c =
    let s = c.args.self.now in
    let bound = counting_bound g.V.ValueKind.meaning g.met.V.ValueKind.lawful (gates_of s) (board_own s.board.now) _ c.loop-rounds.invariant.0 c.loop-rounds.row c.loop-rounds.invariant.2 in
    omega arith

pub loop-rounds-preserved : goal.loop-rounds-preserved
loop-rounds-preserved g c =
    let K = g.V.ValueKind.meaning in
    let s = c.args.self.now in
    let k = c.loop-rounds.invariant.0 in
    let same = sym (c.loop-rounds-test.ensures.answer ∙ ap (same_row K c.loop-rounds.row) c.sweep.ensures.after) in (
      k + 1,
      omega arith,
      subst (λ xs. Counting K (gates_of s) (given_of K s) (k + 1) xs) (sym c.sweep.ensures.after)
          (counting_more K g.met.V.ValueKind.lawful (gates_of s) (board_own s.board.now) (given_of K s) k c.loop-rounds.row c.loop-rounds.invariant.2 same),
    )

pub returns : goal.returns
returns g c =
    let K = g.V.ValueKind.meaning in
    let s = c.args.self.now in
    let same = sym (c.loop-rounds-test.ensures.answer ∙ ap (same_row K c.loop-rounds.row) c.sweep.ensures.after) in
    let last = counting_last K g.met.V.ValueKind.lawful (gates_of s) (board_own s.board.now) (given_of K s) c.loop-rounds.invariant.0 c.loop-rounds.row c.loop-rounds.invariant.2 same in
    record { answer = c.loop-rounds.invariant.1 ∙ last.count; after = c.sweep.ensures.after ∙ last.row }
