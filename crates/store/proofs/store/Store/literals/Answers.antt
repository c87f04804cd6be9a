use Rattle.std.proofs.Common.{◌≡◌, length, arith, rules}
use Rattle.store.proofs.Cuts.{all_lengths, literals_cut}
use Rattle.store.proofs.store.Store.literals.Goals as goal

pub returns : goal.returns
returns c =
    let s = c.args.self.now in
    let long : s.row.len ≡ length s.row.items = search rules in
    let all = all_lengths s.entries.items 0 (length s.row.items) s.tight in
    omega (arith, c.len.ensures, literals_cut s.entries.items s.row.items (omega arith))
