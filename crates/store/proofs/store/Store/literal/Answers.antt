use Rattle.std.proofs.Common.{◌≡◌, ◌+◌, ◌≤◌, length, vec_items, vec_len, sym, ap, ◌∙◌, arith, rules}
use Rattle.std.specs.List.{slice_range}
use Rattle.store.proofs.Questions.{found_within, found_ends, found_literal}
use Rattle.store.proofs.Seeking.{got}
use Rattle.store.proofs.store.Store.literal.Goals as goal

pub index-entry-requires : goal.index-entry-requires
index-entry-requires c =
    let t = c.find.new.self in
    let long : vec_len t.entries ≡ length (vec_items t.entries) = search rules in
    let within = found_within c.args.self.now t c.args.number c.in_ok-line.line c.find.result c.find.ensures.same c.find.ensures.answer c.in_ok-line.was in
    omega arith

pub overflow_add-literals : goal.overflow_add-literals
overflow_add-literals c =
    let t = c.find.new.self in
    let long : vec_len t.row ≡ length (vec_items t.row) = search rules in
    let ends = found_ends c.args.self.now t c.args.number c.in_ok-line.line c.find.result c.index-entry.result.now c.find.ensures.same c.find.ensures.answer c.in_ok-line.was c.index-entry.ensures in
    search rules

pub offset_bounds-deref-entry : goal.offset_bounds-deref-entry
offset_bounds-deref-entry c =
    let t = c.find.new.self in
    let long : vec_len t.row ≡ length (vec_items t.row) = search rules in
    let ends = found_ends c.args.self.now t c.args.number c.in_ok-line.line c.find.result c.index-entry.result.now c.find.ensures.same c.find.ensures.answer c.in_ok-line.was c.index-entry.ensures in
    let inside : c.index-entry.result.now.start ≤ length c.deref.result.now = omega (arith, c.deref.ensures.len) in
    search rules

pub slice_bounds-literals-end : goal.slice_bounds-literals-end
slice_bounds-literals-end c =
    let t = c.find.new.self in
    let long : vec_len t.row ≡ length (vec_items t.row) = search rules in
    let ends = found_ends c.args.self.now t c.args.number c.in_ok-line.line c.find.result c.index-entry.result.now c.find.ensures.same c.find.ensures.answer c.in_ok-line.was c.index-entry.ensures in
    let inside : c.index-entry.result.now.start + c.index-entry.result.now.length ≤ length c.deref.result.now = omega (arith, c.deref.ensures.len) in
    search rules

pub returns-clause-answer : goal.returns-clause-answer
returns-clause-answer c =
    let t = c.find.new.self in
    let e = c.index-entry.result.now in
    let lookup = c.get.ensures.lookup.3 in
    c.copied.ensures ∙ sym (got (slice_range (vec_items t.row) e.start (e.start + e.length)) _ c.args.at c.get.result (ap (λ r. slice_range r e.start (e.start + e.length)) c.deref.ensures.value) lookup)
    ∙ found_literal c.args.self.now t c.args.number c.in_ok-line.line c.args.at c.find.result e c.find.ensures.same c.find.ensures.answer c.in_ok-line.was c.index-entry.ensures
