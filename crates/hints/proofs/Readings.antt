-- A clause is read literal by literal.
use Rattle.std.proofs.Common.{◌≡◌, ℕ, ◌+◌, ◌<◌, Bool, true, false, cond, [], ◌∷◌, length, get_or, drop, ℤ, pos, Some, None, Option, sym, refl, ap, ◌∙◌, ⊎_elim, arith}
use Rattle.std.proofs.lemmas.List.{at_drop_more}
use Rattle.std.proofs.lemmas.Option.{slice_get-get_or, slice_get_past}
use Rattle.std.proofs.lemmas.Bool.{cases_lt}
use Rattle.std.specs.Option.{option_map}
use Rattle.clauses.specs.Clauses.{Clause, length_of, clause_literal}
use Rattle.hints.specs.Hints.{Marks, names, value, weighed, joined, reading}
use Rattle.hints.specs.declared.Reading.{Reading}
use Rattle.hints.specs.declared.Reading.TheVariants.{Conflict, Forced, Slack}

weighed_slack : (l : ℤ) (v : Option Bool) → weighed Slack l v ≡ Slack
weighed_slack l None = refl
weighed_slack l (Some true) = refl
weighed_slack l (Some false) = refl

module _ (V : ℕ) (m : Marks) where
  -- what the clause says, if it says r up to place i
  abbrev pub from : Reading → ℕ → Option Clause → Option Reading
  from r i None = None
  from r i (Some ls) = Some (reading V m r (drop i ls))

  -- one more literal
  pub from_more : (o : Option Clause) (i : ℕ) (r s : Reading) → Some s ≡ option_map (joined V m r) (clause_literal o i) → from r i o ≡ from s (i + 1) o
  from_more None i r s e = grind arith
  from_more (Some ls) i r s e = ⊎_elim more (λ past. let none = slice_get_past ls i past in grind arith) (cases_lt i (length ls))
    where
      more : i < length ls → from r i (Some ls) ≡ from s (i + 1) (Some ls)
      more h =
          let here = slice_get-get_or ls i (pos 0) h in
          let next = at_drop_more (reading V m r) ls i (pos 0) h in
          let same : s ≡ joined V m r (get_or ls i (pos 0)) = cc in
          ap Some (next ∙ ap (λ x. reading V m x (drop (i + 1) ls)) (sym same))

  joined_slack : (l : ℤ) (b : Bool) → cond b (weighed Slack l (value m l)) Slack ≡ Slack
  joined_slack l true = weighed_slack l (value m l)
  joined_slack l false = refl

  reading_slack : (ls : Clause) → reading V m Slack ls ≡ Slack
  reading_slack [] = refl
  reading_slack (l ∷ ls) = ap (λ r. reading V m r ls) (joined_slack l (names V l)) ∙ reading_slack ls

  from_slack : (o : Option Clause) (i n : ℕ) → Some n ≡ length_of o → from Slack i o ≡ Some Slack
  from_slack None i n e = grind arith
  from_slack (Some ls) i n e = ap Some (reading_slack (drop i ls))

  -- A literal makes the clause slack.
  pub from_stop : (o : Option Clause) (i n : ℕ) (r : Reading) → Some n ≡ length_of o → Some Slack ≡ option_map (joined V m r) (clause_literal o i) → from r i o ≡ Some Slack
  from_stop o i n r there e = from_more o i r Slack e ∙ from_slack o (i + 1) n there

  -- What a clause forces is one of the variables.
  weighed_names : (v : Option Bool) (r : Reading) (k l : ℤ) → names V k ≡ true → (r ≡ Forced l → names V l ≡ true) → weighed r k v ≡ Forced l → names V l ≡ true
  weighed_names None Conflict k l n h e = grind arith
  weighed_names None (Forced j) k l n h e = grind arith
  weighed_names None Slack k l n h e = grind arith
  weighed_names (Some true) r k l n h e = grind arith
  weighed_names (Some false) r k l n h e = h e

  joined_names : (b : Bool) (r : Reading) (k l : ℤ) → names V k ≡ b → (r ≡ Forced l → names V l ≡ true) → cond b (weighed r k (value m k)) Slack ≡ Forced l → names V l ≡ true
  joined_names true r k l n h e = weighed_names (value m k) r k l n h e
  joined_names false r k l n h e = grind arith

  reading_names : (ls : Clause) (r : Reading) (l : ℤ) → (r ≡ Forced l → names V l ≡ true) → reading V m r ls ≡ Forced l → names V l ≡ true
  reading_names [] r l h e = h e
  reading_names (k ∷ ks) r l h e = reading_names ks (joined V m r k) l (joined_names (names V k) r k l refl h) e

  pub forced_names : (o : Option Clause) (l : ℤ) → Some (Forced l) ≡ option_map (reading V m Conflict) o → names V l ≡ true
  forced_names None l e = grind arith
  forced_names (Some ls) l e = reading_names ls Conflict l (λ e. grind arith) (cc)
