-- A refuting list that fits is accepted whole, and only such a list is.
use Rattle.std.proofs.Common.{◌≡◌, ℕ, ◌<◌, ◌≤◌, true, eqb, List, [], ◌∷◌, length, is_some, Some, None, Ok, sym, refl, ◌∙◌, subst, le_refl, arith}
use Rattle.std.specs.List.{AllByRecursion as AllOf}
use Rattle.std.specs.Map.{update}
use Rattle.std.proofs.ByRecursion.{All-weaker}
use Rattle.refusals.specs.declared.Refusal.TheVariants.{Space}
use Rattle.clauses.specs.Clauses.{Clause}
use Rattle.refutations.specs.Refuting.{Item, line, strike, Refutes}
use Rattle.refuting.specs.Judging.{Terms, Progress, progress, known}
use Rattle.shelf.specs.Lines.{Lines, Costs, find, insert, remove, keeps}
use Rattle.acceptance.specs.Judged.{judge_item, judge_items, offered, terms_of, EndsEmpty, StrikesAbove, NumbersFit, CostsFit, AllAccepted}
use Rattle.acceptance.specs.Claims.{TakenWhole, OnlyRefuting}
use Rattle.acceptance.proofs.Checks.{passed, accepted, line_taken, line_accepted, line_struck, line_there}
use Rattle.acceptance.proofs.Shelving.{all_insert, all_remove, find_above, keeps_true, keeps_parts, past_formula, known_insert, known_remove, known_past, known_first}

module _ (V : ℕ) (F : List Clause) (capacity : ℕ) (cost : Costs) (marks : ℕ) where
  abbrev t : Terms
  t = terms_of V F capacity cost

  abbrev C : ℕ
  C = length F

  abbrev Accepted : Progress → List Item → Type 0
  Accepted s items = AllAccepted (judge_items t s (offered marks items)).0

  -- the first item, and those after it
  first : (s s' : Progress) (item : Item) (items : List Item) → judge_item t s marks item ≡ (Ok tt, s')
      → Accepted s' items → Accepted s (item ∷ items)
  first s s' item items e later = subst (λ r. AllAccepted (r.0 ∷ (judge_items t r.1 (offered marks items)).0)) (sym e) (refl, later)

  after : (s s' : Progress) (item : Item) (items : List Item) → judge_item t s marks item ≡ (Ok tt, s')
      → Accepted s (item ∷ items) → Accepted s' items
  after s s' item items e all = (subst (λ r. AllAccepted (r.0 ∷ (judge_items t r.1 (offered marks items)).0)) e all).1

  -- the numbers of the lines kept are not above the last one
  abbrev Low : Lines → ℕ → Type 0
  Low xs last = AllOf (λ x. x.0 ≤ last) xs

  low_insert : (xs : Lines) (last n : ℕ) (c : Clause) → Low xs last → last < n → Low (insert n c xs) n
  low_insert xs last n c low h =
      all_insert (λ x. x.0 ≤ n) n c xs (le_refl n) (All-weaker (λ x. x.0 ≤ last) (λ x. x.0 ≤ n) (λ x q. omega arith) xs low)

  low_remove : (xs : Lines) (last n : ℕ) → Low xs last → Low (remove n xs) last
  low_remove xs last n low = all_remove (λ x. x.0 ≤ last) n xs low

  low_free : (xs : Lines) (last n : ℕ) → Low xs last → last < n → find xs n ≡ None
  low_free xs last n low h = find_above n xs (All-weaker (λ x. x.0 ≤ last) (λ x. x.0 < n) (λ x q. omega arith) xs low)

  -- the maps of clauses that a refuting list goes by
  struck_known : (xs : Lines) (n : ℕ) → C < n → known t (remove n xs) ≡ update eqb (known t xs) n None
  struck_known xs n past = known_remove t xs n past

  kept_known : (xs : Lines) (last n : ℕ) (c : Clause) → C ≤ last → Low xs last → last < n
      → known t (insert n c xs) ≡ update eqb (known t xs) n (Some c)
  kept_known xs last n c above low h = known_insert t xs n (omega arith) c (low_free xs last n low h)

  -- ---- a refuting list that fits

  module _ (lent : V ≤ marks) where
    whole : (items : List Item) (xs : Lines) (last : ℕ) → C ≤ last → Low xs last → Refutes V C (known t xs) last items
        → NumbersFit items → CostsFit capacity cost xs items → Accepted (progress last xs) items
    whole [] xs last above low r numbers costs = absurd r
    whole (strike n ∷ items) xs last above low r numbers costs =
        let there = subst (λ o. is_some o ≡ true) (known_past t xs n r.0) r.1 in
        first (progress last xs) (progress last (remove n xs)) (strike n) items
        (line_struck t (progress last xs) n (past_formula C n r.0) there)
        (whole items (remove n xs) last above (low_remove xs last n low)
        (subst (λ f. Refutes V C f last items) (sym (struck_known xs n r.0)) r.2) numbers costs)
    whole (line n [] hints ∷ []) xs last above low r numbers costs =
        first (progress last xs) (progress n xs) (line n [] hints) []
        (line_taken t (progress last xs) marks n [] hints r lent numbers.0 numbers.1) tt
    whole (line n [] hints ∷ (item ∷ items)) xs last above low r numbers costs = absurd r
    whole (line n (l ∷ ls) hints ∷ items) xs last above low r numbers costs =
        let s = progress last xs in
        let c : Clause = l ∷ ls in
        let s' = progress n (insert n c xs) in
        let room = keeps_true capacity cost xs n c (low_free xs last n low r.0.0) costs.0 costs.1 in
        first s s' (line n c hints) items
        (line_taken t s marks n c hints r.0 lent numbers.0 numbers.1 ∙ passed (keeps capacity cost xs n c) Space s (Ok tt, s') room)
        (whole items (insert n c xs) n (omega (arith, r.0.0)) (low_insert xs last n c low r.0.0)
        (subst (λ f. Refutes V C f n items) (sym (kept_known xs last n c above low r.0.0)) r.1) numbers.2 costs.2)

  -- ---- a list that is accepted

  abbrev Right : ℕ → Lines → List Item → Type 0
  Right last xs items = (V ≤ marks) × Refutes V C (known t xs) last items × NumbersFit items × CostsFit capacity cost xs items

  only : (items : List Item) (xs : Lines) (last : ℕ) → C ≤ last → Low xs last → EndsEmpty items → StrikesAbove C items
      → Accepted (progress last xs) items → Right last xs items
  only [] xs last above low ends strikes all = absurd ends
  only (strike n ∷ items) xs last above low ends strikes all =
      let s = progress last xs in
      let past = past_formula C n strikes.0 in
      let there = line_there t s n past all.0 in
      let rest = after s (progress last (remove n xs)) (strike n) items (line_struck t s n past there) all in
      let later = only items (remove n xs) last above (low_remove xs last n low) ends strikes.1 rest in (
        later.0,
        (
          strikes.0,
          subst (λ o. is_some o ≡ true) (sym (known_past t xs n strikes.0)) there,
          subst (λ f. Refutes V C f last items) (struck_known xs n strikes.0) later.1,
        ),
        later.2,
        later.3,
      )
  only (line n [] hints ∷ []) xs last above low ends strikes all =
      let f = line_accepted t (progress last xs) marks n [] hints all.0 in
      (f.1, f.0, (f.2, f.3, tt), tt)
  only (line n [] hints ∷ (item ∷ items)) xs last above low ends strikes all = absurd ends
  only (line n (l ∷ ls) hints ∷ items) xs last above low ends strikes all =
      let s = progress last xs in
      let c : Clause = l ∷ ls in
      let s' = progress n (insert n c xs) in
      let f = line_accepted t s marks n c hints all.0 in
      let higher : last < n = f.0.0 in
      let kept = (accepted (keeps capacity cost xs n c) Space s (Ok tt, s') f.4).0 in
      let costs = keeps_parts capacity cost xs n c kept in
      let e = line_taken t s marks n c hints f.0 f.1 f.2 f.3 ∙ passed (keeps capacity cost xs n c) Space s (Ok tt, s') kept in
      let rest = after s s' (line n c hints) items e all in
      let later = only items (insert n c xs) n (omega arith) (low_insert xs last n c low higher) ends strikes rest in (
        f.1,
        (f.0, subst (λ g. Refutes V C g n items) (kept_known xs last n c above low higher) later.1),
        (f.2, f.3, later.2),
        (costs.1, costs.2, later.3),
      )

pub taken_whole : TakenWhole
taken_whole V F capacity cost marks lent items r numbers costs =
    whole V F capacity cost marks lent items [] (length F) (le_refl (length F)) tt
    (subst (λ f. Refutes V (length F) f (length F) items) (sym (known_first F)) r) numbers costs

pub only_refuting : OnlyRefuting
only_refuting V F capacity cost marks items ends strikes all =
    let right = only V F capacity cost marks items [] (length F) (le_refl (length F)) tt ends strikes all in
    (right.0, subst (λ f. Refutes V (length F) f (length F) items) (known_first F) right.1, right.2, right.3)
