use Rattle.std.proofs.Common.{◌≡◌, ◌≤◌, length, Some, None, Option, vec_items, sym, refl, ap₂, ap, ◌∙◌, arith, rules}
use Rattle.std.specs.List.{slice_get}
use Rattle.std.specs.Option.{option_map}
use Rattle.std.proofs.lemmas.Option.{MatchOption-at_none, MatchOption-at_some}
use denote.Bor.{Bor}
use Rattle.store.specs.declared.entry.Entry.{Entry}
use Rattle.store.proofs.Cuts.{length_cut, all_lengths, literals_cut, start_of, starts_at, lengths_within}
use Rattle.store.proofs.Seeking.{got}
use Rattle.store.proofs.store.Store.start.Goals as goal

pub returns : goal.returns
returns c =
    let s = c.args.self.now in
    let es = vec_items s.entries in
    let all = all_lengths es 0 (length (vec_items s.row)) s.tight in
    let end : c.literals.result ≡ length (vec_items s.row) = omega (arith, c.literals.ensures, literals_cut es (vec_items s.row) (omega arith)) in
    let there = got es c.deref.result.now c.args.at c.get.result c.deref.ensures.value c.get.ensures.lookup.3 in
    let inside : c.args.at ≤ length es = omega (arith, length_cut es (vec_items s.row)) in
    let start : c.map_or.result ≡ start_of (length (vec_items s.row)) (slice_get es c.args.at) =
    go c.get.result refl ∙ ap₂ start_of end (sym there) in
    let is = starts_at es 0 (length (vec_items s.row)) c.args.at s.tight inside in
    let within = lengths_within es c.args.at (length (vec_items s.row)) s.tight in
    record { is = omega arith; within = omega arith }
  where
    go : (o : Option (Bor Entry)) → c.get.result ≡ o → c.map_or.result ≡ start_of c.literals.result (option_map (λ x. x.now) c.get.result)
    go None e = MatchOption-at_none _ _ e c.map_or.ensures ∙ ap (λ o. start_of c.literals.result (option_map (λ x. x.now) o)) (sym e)
    go (Some x) e =
        let yes = MatchOption-at_some _ _ x e c.map_or.ensures in
        let same : c.map_or.result ≡ x.now.start = search rules in
        same ∙ ap (λ o. start_of c.literals.result (option_map (λ x. x.now) o)) (sym e)
