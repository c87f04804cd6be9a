use Rattle.std.proofs.Common.{◌≡◌, ◌-◌, length, sym, ap, ◌∙◌, rules}
use Rattle.std.specs.Option.{option_map}
use Rattle.std.specs.List.{slice_get}
use Rattle.boards.specs.Sheets.{sheet}
use Rattle.wireclauses.specs.Literals.{few_of}
use Rattle.sources.specs.Places.{clause_of}
use Rattle.sources.specs.Meaning.{gates_of, property_of, tail_of}
use Rattle.sources.proofs.Parts.{in_front, in_tail, base_tail_at}
use Rattle.sources.proofs.formula.Formula.clause.Goals as goal

pub returns-then-k-frames : goal.returns-then-k-frames
returns-then-k-frames c =
    let f = c.args.self.now in
    let short : option_map (clause_of (length (gates_of f)) (property_of f)) c.map.result ≡ option_map few_of c.in_frames.result = search rules in
    in_front f.kind (sheet f.board) _ _ _ c.frames_size-frames.ensures.is c.if-k-frames.true (short ∙ c.in_frames.ensures)

pub returns-in-Base : goal.returns-in-Base
returns-in-Base c =
    let f = c.args.self.now in
    let o = c.outline.ensures in
    in_tail f.kind (sheet f.board) _ _ _ c.frames_size-frames.ensures.is c.if-k-frames.false
    (base_tail_at f.kind (sheet f.board) _ _ _ _ _ c.in-Base.is o.wires o.property o.depth c.base_tail.ensures)

pub returns-in-Step : goal.returns-in-Step
returns-in-Step c =
    let f = c.args.self.now in
    in_tail f.kind (sheet f.board) _ _ _ c.frames_size-frames.ensures.is c.if-k-frames.false
    (c.step_tail.ensures ∙ ap (λ k. slice_get (tail_of k (sheet f.board)) (c.args.k - c.frames_size-frames.result)) (sym c.in-Step.is))
