use Rattle.std.proofs.Common.{◌≡◌, ◌-◌, length, Some, Err, vec_items, ap, ◌∙◌, rules}
use Rattle.std.specs.List.{slice_get}
use Rattle.std.proofs.lemmas.List.Sorted.{answers_always}
use Rattle.store.specs.declared.entry.Entry.{Entry}
use Rattle.store.proofs.Seeking.{seek_last, seek_found}
use Rattle.store.proofs.store.Store.seek.Goals as goal

pub returns-in-Some : goal.returns-in-Some
returns-in-Some c =
    let s = c.args.self.now in
    let long : c.len.result ≡ length (vec_items s.entries) = search rules in
    let last : Some c.in-Some.last.now ≡ slice_get (vec_items s.entries) (length (vec_items s.entries) - 1) = search rules in
    ap Err long ∙ seek_last (vec_items s.entries) (vec_items s.row) c.args.number c.in-Some.last.now s.rising last c.if-last-number.true

pub returns-in_default : goal.returns-in_default
returns-in_default c =
    let s = c.args.self.now in
    let facts = c.binary_search_by_key.ensures in
    let by_key = facts.position (λ (e : Entry). e.number) (answers_always _ _ _ (λ f a r g called. search rules)) in
    seek_found (vec_items s.entries) (vec_items s.row) c.args.number _ s.rising (rw c.deref-in_default.ensures.value at facts.bound) (rw c.deref-in_default.ensures.value at by_key)
