use Rattle.std.proofs.Common.{◌≡◌, None, vec_items, sym, ◌∙◌, inl, arith}
use Rattle.std.proofs.lemmas.Option.{MatchOption-at_some, MatchOption-at_none}
use Rattle.std.proofs.lemmas.Result.{err_from_is_err_and}
use Rattle.refusals.specs.declared.Refusal.TheVariants as refusal
use Rattle.gates.proofs.FirstRecord.{first_some}
use Rattle.gatefiles.proofs.Reading.{no_file, read_turn, read_full, read_end}
use Rattle.gatefiles.proofs.read.draw_file.Goals as goal

pub records-preserved : goal.records-preserved
records-preserved c =
    let i = c.records.invariant in
    read_turn i.0 c.args.file.now c.records.rest.now (vec_items c.records.drawing.gates) i.1 i.2 c.in-Some.gate c.in-Some.next.now
    c.add_gate-room.result _ (first_some c.records.rest.now _ _ (sym c.in-Some.ensures)) c.add_gate-room.ensures.answer c.add_gate-room.ensures.after

pub returns-in_err-ending : goal.returns-in_err-ending
returns-in_err-ending c =
    let i = c.records.invariant in
    let p = err_from_is_err_and c.from_residual.result c.from_residual.ensures.1 in
    let none : c.read_ending.result ≡ None = c.in_err-ending.ensures.ok_part in
    let form : p.0 ≡ refusal.Record = grind arith in
    rw p.1 (inl (no_file i.0 c.records.rest.now c.args.file.now i.1 (MatchOption-at_none _ _ none c.read_ending.ensures) (sym c.in_default.ensures), form))

pub returns-in_err-room : goal.returns-in_err-room
returns-in_err-room c =
    let i = c.records.invariant in
    let p = err_from_is_err_and c.from_residual-in_err-room.result c.from_residual-in_err-room.ensures.1 in
    let end = MatchOption-at_some _ _ c.in_ok-ending.ending c.in_ok-ending.ensures.ok_part c.read_ending.ensures in
    rw (p.1, p.2) (read_full i.0 c.args.file.now c.records.rest.now _ i.1 i.2 _ _ end c.in_err-room.field-0.0 (sym c.in_err-room.was ∙ i.3))

pub returns : goal.returns
returns c =
    let i = c.records.invariant in
    let end = MatchOption-at_some _ _ c.in_ok-ending.ending c.in_ok-ending.ensures.ok_part c.read_ending.ensures in
    read_end i.0 c.args.file.now c.records.rest.now _ i.1 i.2 _ _ end (sym c.in_ok-room.was ∙ i.3)
