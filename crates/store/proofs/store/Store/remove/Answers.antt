use Rattle.std.proofs.Common.{◌≡◌, suc, ◌+◌, ◌^◌, ◌<◌, length, ap, ◌∙◌, arith, rules}
use Rattle.store.specs.Rows.{lengths}
use Rattle.store.proofs.Cuts.{length_cut, all_lengths, entry_ends, lengths_more, lengths_parts}
use Rattle.store.proofs.Shifts.{lined_left, behind_left}
use Rattle.store.proofs.Storing.{Sound, taken_lines, taken_sound}
use Rattle.store.proofs.store.Store.remove.Goals as goal

pub remove-entry-requires : goal.remove-entry-requires
remove-entry-requires c =
    let s = c.args.self.now in
    let some : s.entries.len ≡ length s.entries.items = search rules in
    omega (arith, c.requires, length_cut s.entries.items s.row.items)

pub take_out-requires : goal.take_out-requires
take_out-requires c =
    let s = c.args.self.now in
    let e = c.remove-entry.result in
    let long : s.row.len ≡ length s.row.items = search rules in
    let ends = entry_ends s.entries.items 0 (length s.row.items) c.args.at e s.tight (omega (arith, c.requires, length_cut s.entries.items s.row.items)) in
    omega (arith, ends.0, ap (λ x. x.start + x.length) c.remove-entry.ensures.value)

pub line_up-requires : goal.line_up-requires
line_up-requires c =
    let s = c.args.self.now in
    let es = s.entries.items in
    let at = c.args.at in
    let inside : at < length es = omega (arith, c.requires, length_cut es s.row.items) in
    let some : s.entries.len ≡ length es = search rules in
    let long : s.row.len ≡ length s.row.items = search rules in
    let small : s.row.len < 2 ^ 64 = search rules in
    let e = c.remove-entry.result in
    let ends = entry_ends es 0 (length s.row.items) at e s.tight inside in
    let behind = ap lengths (behind_left es c.remove-entry.new.self.items at c.remove-entry.ensures.items inside) in (
      omega (arith, c.remove-entry.ensures.len),
      omega (
        arith,
        ap (λ x. x.start) c.remove-entry.ensures.value,
        lengths_parts es (suc at),
        lengths_more es at e inside,
        all_lengths es 0 (length s.row.items) s.tight,
      ),
    )

pub returns-clause-lines : goal.returns-clause-lines
returns-clause-lines c =
    let s = c.args.self.now in
    let es = s.entries.items in
    let at = c.args.at in
    let inside : at < length es = omega (arith, c.requires, length_cut es s.row.items) in
    let before : Sound es s.row.items = record { rising = s.rising; tight = s.tight } in
    let left = c.line_up.ensures.items ∙ lined_left es c.remove-entry.new.self.items at c.remove-entry.result.start c.remove-entry.ensures.items inside in
    taken_lines es c.line_up.new.entries.items s.row.items c.take_out.new.row.items at c.remove-entry.result before inside c.remove-entry.ensures.value left c.take_out.ensures.items

pub invariant_of-self : goal.invariant_of-self
invariant_of-self c =
    let s = c.args.self.now in
    let es = s.entries.items in
    let at = c.args.at in
    let inside : at < length es = omega (arith, c.requires, length_cut es s.row.items) in
    let before : Sound es s.row.items = record { rising = s.rising; tight = s.tight } in
    let left = c.line_up.ensures.items ∙ lined_left es c.remove-entry.new.self.items at c.remove-entry.result.start c.remove-entry.ensures.items inside in
    let after = taken_sound es c.line_up.new.entries.items s.row.items c.take_out.new.row.items at c.remove-entry.result before inside c.remove-entry.ensures.value left c.take_out.ensures.items in
    record { rising = after.rising; tight = after.tight }
