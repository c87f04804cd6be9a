use Rattle.std.proofs.Common.{◌≡◌, length, vec_items, vec_len, arith, rules}
use Rattle.store.proofs.Questions.{found_within, found_length}
use Rattle.store.proofs.store.Store.length.Goals as goal

pub index-requires : goal.index-requires
index-requires c =
    let t = c.find.new.self in
    let long : vec_len t.entries ≡ length (vec_items t.entries) = search rules in
    let within = found_within c.args.self.now t c.args.number c.in_ok-at.at c.find.result c.find.ensures.same c.find.ensures.answer c.in_ok-at.was in
    omega arith

pub returns : goal.returns
returns c =
    record {
      answer = found_length c.args.self.now c.find.new.self c.args.number c.in_ok-at.at c.find.result c.index.result.now c.find.ensures.same c.find.ensures.answer c.in_ok-at.was c.index.ensures;
      same = c.find.ensures.same;
    }
