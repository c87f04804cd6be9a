-- What lines cost where there are slots.
use Rattle.std.proofs.Common.{◌≡◌, ℕ, ◌+◌, ◌*◌, ◌≤◌, Bool, true, false, cond, leb, ltb, [], ◌∷◌, length, is_some, Some, None, unwrap_or, refl, sym, ap, ◌∙◌, arith}
use Rattle.std.proofs.lemmas.Bool.{le-leb, leb-true, and_parts, both_ways}
use Rattle.std.proofs.lemmas.Bool.Decides.{nat_tests}
use Rattle.shelf.specs.Lines.{Lines, total, affords}
use Rattle.store.specs.Rows.{literals_in}
use Rattle.stored.specs.Rules.{priced}
use Rattle.slots.specs.Rule.{slot_cost}

-- What has a cost is short, and costs a slot.
short : (n : ℕ) → is_some (slot_cost n) ≡ true → (unwrap_or (slot_cost n) 0 ≡ 1) × (n ≤ 32)
short n e = go (leb n 32) refl e
  where
    go : (b : Bool) → leb n 32 ≡ b → is_some {T = ℕ} (cond b (Some 1) None) ≡ true → (unwrap_or {T = ℕ} (cond b (Some 1) None) 0 ≡ 1) × (n ≤ 32)
    go true h e = (refl, leb-true n 32 h)
    go false h e = absurd (both_ways false refl e)

pub slot_total : (xs : Lines) → priced slot_cost xs ≡ true → total slot_cost xs ≡ length xs
slot_total [] e = refl
slot_total (x ∷ xs) e =
    let p = and_parts (is_some (slot_cost (length x.1))) (priced slot_cost xs) e in
    omega (arith, (short (length x.1) p.0).0, slot_total xs p.1)

pub slot_literals : (xs : Lines) → priced slot_cost xs ≡ true → literals_in xs ≤ 32 * length xs
slot_literals [] e = omega arith
slot_literals (x ∷ xs) e =
    let p = and_parts (is_some (slot_cost (length x.1))) (priced slot_cost xs) e in
    omega (arith, (short (length x.1) p.0).1, slot_literals xs p.1)

-- A line that is short can be kept where a slot is free.
pub slot_affords : (slots lines used n : ℕ) → n ≤ 32 → lines ≡ used → ltb lines slots ≡ affords slots used (slot_cost n)
slot_affords slots lines used n short same =
    let one : ltb lines slots ≡ leb (used + 1) slots = grind (arith, nat_tests) in
    one ∙ sym (ap (λ b. affords slots used (cond b (Some 1) None)) (le-leb n 32 short))
