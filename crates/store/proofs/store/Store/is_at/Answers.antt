use Rattle.std.proofs.Common.{◌≡◌, eqb, Some, None, Option, vec_items, sym, refl, ap, ◌∙◌, rules}
use Rattle.std.specs.Option.{option_map}
use Rattle.std.proofs.lemmas.Option.{MatchOption-at_none, MatchOption-at_some}
use denote.Bor.{Bor}
use Rattle.store.specs.declared.entry.Entry.{Entry}
use Rattle.store.proofs.Seeking.{entry_named, stands_is, got}
use Rattle.store.proofs.store.Store.is_at.Goals as goal

pub returns : goal.returns
returns c =
    let s = c.args.self.now in
    let there = got (vec_items s.entries) c.deref.result.now c.args.at c.get.result c.deref.ensures.value c.get.ensures.lookup.3 in
    go c.get.result refl
    ∙ sym (stands_is (vec_items s.entries) (vec_items s.row) c.args.number c.args.at ∙ ap (entry_named c.args.number) there)
  where
    go : (o : Option (Bor Entry)) → c.get.result ≡ o → c.is_some_and.result ≡ entry_named c.args.number (option_map (λ x. x.now) c.get.result)
    go None e = MatchOption-at_none _ _ e c.is_some_and.ensures ∙ ap (λ o. entry_named c.args.number (option_map (λ x. x.now) o)) (sym e)
    go (Some x) e =
        let yes = MatchOption-at_some _ _ x e c.is_some_and.ensures in
        let same : c.is_some_and.result ≡ eqb x.now.number c.args.number = search rules in
        same ∙ ap (λ o. entry_named c.args.number (option_map (λ x. x.now) o)) (sym e)
