use Rattle.std.proofs.Common.{◌≡◌, ◌^◌, ◌<◌, ◌≤◌, length, is_ok, refl, ◌∙◌, arith, rules}
use Rattle.std.proofs.lemmas.Bool.{cond-true}
use Rattle.store.specs.declared.entry.Entry.{Entry}
use Rattle.store.specs.Stores.{lines_of}
use Rattle.store.proofs.Places.{place_within}
use Rattle.store.proofs.Cuts.{length_cut, all_lengths, literals_cut, lengths_parts}
use Rattle.store.proofs.Shifts.{length_behind, lined_put}
use Rattle.store.proofs.Storing.{Sound, put_lines, put_sound}
use Rattle.store.proofs.store.Store.insert.Goals as goal

pub start-start-requires : goal.start-start-requires
start-start-requires c = omega (arith, c.requires.place, place_within c.args.number (lines_of c.args.self.now))

pub put_in-requires : goal.put_in-requires
put_in-requires c =
    let s = c.args.self.now in
    let long : s.row.len ≡ length s.row.items = search rules in
    let all = all_lengths s.entries.items 0 (length s.row.items) s.tight in
    let sum = literals_cut s.entries.items s.row.items (omega arith) in
    (c.start-start.ensures.within, omega (arith, c.requires.literals))

pub line_up-requires : goal.line_up-requires
line_up-requires c =
    let s = c.args.self.now in
    let es = s.entries.items in
    let some : s.entries.len ≡ length es = search rules in
    let small : s.row.cap < 2 ^ 64 = search rules in
    let lines = length_cut es s.row.items in
    let all = all_lengths es 0 (length s.row.items) s.tight in
    let sum = literals_cut es s.row.items (omega arith) in (
      omega (arith, c.requires.place, place_within c.args.number (lines_of s)),
      omega (arith, c.requires.literals, lengths_parts es c.args.at),
    )

pub insert-requires : goal.insert-requires
insert-requires c =
    let s = c.args.self.now in
    let es = s.entries.items in
    let ws = c.line_up.new.entries in
    let more : ws.len ≡ length ws.items = search rules in
    let inside : c.args.at ≤ length es = omega (arith, c.requires.place, place_within c.args.number (lines_of s), length_cut es s.row.items) in
    omega (arith, length_behind es ws.items c.args.at _ c.line_up.ensures.items inside)

pub invariant_of-self : goal.invariant_of-self
invariant_of-self c =
    let s = c.args.self.now in
    let es = s.entries.items in
    let at = c.args.at in
    let e : Entry = record { number = c.args.number; start = c.start-start.result; length = length c.args.literals.now } in
    let before : Sound es s.row.items = record { rising = s.rising; tight = s.tight } in
    let ws = c.line_up.new.entries in
    let some : s.entries.len ≡ length es = search rules in
    let more : ws.len ≡ length ws.items = search rules in
    let inside : at ≤ length es = omega (arith, c.requires.place, place_within c.args.number (lines_of s), length_cut es s.row.items) in
    let room : ws.len < ws.cap = omega (arith, c.requires.lines, length_cut es s.row.items, c.line_up.ensures.room, length_behind es ws.items at _ c.line_up.ensures.items inside) in
    let with_it = c.insert.ensures.items ∙ cond-true (is_ok c.insert.result) _ _ (c.insert.ensures.succeeds room) in
    let put = lined_put es ws.items c.insert.new.self.items at _ e c.line_up.ensures.items with_it inside in
    let after = put_sound es c.insert.new.self.items s.row.items c.put_in.new.row.items c.args.literals.now at e before c.requires.place c.requires.free c.start-start.ensures.is refl put c.put_in.ensures.items in
    record { rising = after.rising; tight = after.tight }

pub returns-clause-lines : goal.returns-clause-lines
returns-clause-lines c =
    let s = c.args.self.now in
    let es = s.entries.items in
    let at = c.args.at in
    let e : Entry = record { number = c.args.number; start = c.start-start.result; length = length c.args.literals.now } in
    let before : Sound es s.row.items = record { rising = s.rising; tight = s.tight } in
    let ws = c.line_up.new.entries in
    let some : s.entries.len ≡ length es = search rules in
    let more : ws.len ≡ length ws.items = search rules in
    let inside : at ≤ length es = omega (arith, c.requires.place, place_within c.args.number (lines_of s), length_cut es s.row.items) in
    let room : ws.len < ws.cap = omega (arith, c.requires.lines, length_cut es s.row.items, c.line_up.ensures.room, length_behind es ws.items at _ c.line_up.ensures.items inside) in
    let with_it = c.insert.ensures.items ∙ cond-true (is_ok c.insert.result) _ _ (c.insert.ensures.succeeds room) in
    let put = lined_put es ws.items c.insert.new.self.items at _ e c.line_up.ensures.items with_it inside in
    put_lines es c.insert.new.self.items s.row.items c.put_in.new.row.items c.args.literals.now at e before c.requires.place c.requires.free c.start-start.ensures.is refl put c.put_in.ensures.items
