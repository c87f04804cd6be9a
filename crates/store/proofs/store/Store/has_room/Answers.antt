use Rattle.std.proofs.Common.{◌≡◌, ◌+◌, ◌-◌, ◌≤◌, ltb, leb, length, ap, ◌∙◌, ap₂, arith, rules}
use Rattle.store.specs.Rows.{literals_in}
use Rattle.store.specs.Stores.{lines_of}
use Rattle.store.proofs.Cuts.{length_cut, all_lengths, literals_cut}
use Rattle.store.proofs.Storing.{room_is, no_room}
use Rattle.store.proofs.store.Store.has_room.Goals as goal

pub returns-then-len-capacity : goal.returns-then-len-capacity
returns-then-len-capacity c =
    let s = c.args.self.now in
    let es = s.entries.items in
    let k = c.args.length in
    let some : s.entries.len ≡ length es = search rules in
    let long : s.row.len ≡ length s.row.items = search rules in
    let within : s.row.len ≤ s.row.cap = search rules in
    let all = all_lengths es 0 (length s.row.items) s.tight in
    let sum = literals_cut es s.row.items (omega arith) in
    let lines = length_cut es s.row.items in
    let same : c.capacity-then-len-capacity.result - c.len-then-len-capacity.result ≡ s.row.cap - literals_in (lines_of s) = omega arith in
    ap (leb k) same ∙ room_is (length (lines_of s)) s.entries.cap (literals_in (lines_of s)) k s.row.cap (omega arith) (omega arith)

pub returns-else-len-capacity : goal.returns-else-len-capacity
returns-else-len-capacity c =
    let s = c.args.self.now in
    let es = s.entries.items in
    let some : s.entries.len ≡ length es = search rules in
    let lines = length_cut es s.row.items in
    let same : c.len.result ≡ length (lines_of s) = omega arith in
    ap₂ ltb same c.capacity.ensures
    ∙ no_room (length (lines_of s)) s.entries.cap (leb (literals_in (lines_of s) + c.args.length) s.row.cap) (omega arith)
