use Rattle.std.proofs.Common.{◌≡◌, length, sym, ◌∙◌, rules}
use Rattle.store.proofs.Cuts.{length_cut}
use Rattle.store.proofs.store.Store.lines.Goals as goal

pub returns : goal.returns
returns c =
    let s = c.args.self.now in
    let long : s.entries.len ≡ length s.entries.items = search rules in
    c.len.ensures ∙ long ∙ sym (length_cut s.entries.items s.row.items)
