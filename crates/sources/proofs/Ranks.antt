-- Registers are counted wire by wire, and the two rows hold the counts.
use Rattle.std.proofs.Common.{◌≡◌, ℕ, zero, suc, ◌+◌, ◌<◌, ◌≤◌, Bool, true, false, cond, List, length, get_or, set, count_by, sym, refl, ap, ◌∙◌, subst, ⊎_elim, add-one, arith}
use Rattle.std.proofs.lemmas.List.{get_or_past, get_or-set_same, get_or-set_other, length-set, take_all}
use Rattle.std.proofs.lemmas.Bool.{cases_lt}
use Rattle.std.specs.Int.{from_bool}
use Rattle.gates.specs.declared.gate.Gate.{Gate}
use Rattle.gates.specs.declared.gate.Gate.TheVariants.{Input, Zero, One, Copy, Not, And, Or, Implies, Xor, Register}
use Rattle.gates.specs.Gates.{is_register}
use Rattle.gates.proofs.Counting.{count_turn}
use Rattle.formulas.specs.Drives.{drive, driver}
use Rattle.wireclauses.specs.Sizes.{plain_size, one_if}
use Rattle.sources.specs.declared.rows.Before.{Before}
use Rattle.sources.specs.Rows.{plain_before, registers_before, CountsBefore, RowUpTo}

ones : (g : Gate) → ◌≡◌ {A = ℕ} (cond (is_register g) 1 0) (one_if (drive g))
ones Input = refl
ones Zero = refl
ones One = refl
ones (Copy y) = refl
ones (Not y) = refl
ones (And y z) = refl
ones (Or y z) = refl
ones (Implies y z) = refl
ones (Xor y z) = refl
ones (Register y) = refl

-- past the last wire nothing is added
pub rank_more : (gs : List Gate) (w : ℕ) → registers_before gs (suc w) ≡ registers_before gs w + one_if (driver gs w)
rank_more gs w =
    ⊎_elim
    (λ l. ap (registers_before gs) (sym (add-one w)) ∙ (count_turn is_register gs w l ∙ ap (λ x. registers_before gs w + x) (ones (get_or gs w Input))))
    (λ l. let a : registers_before gs (suc w) ≡ registers_before gs w = ap (count_by is_register) (take_all (suc w) gs (omega arith) ∙ sym (take_all w gs l)) in
    let b : one_if (driver gs w) ≡ 0 = ap (λ g. one_if (drive g)) (get_or_past gs w Input l) in
    omega (arith, a, b))
    (cases_lt w (length gs))

-- the counts rise from wire to wire
pub plain_up : (gs : List Gate) (w v : ℕ) → w ≤ v → plain_before gs w ≤ plain_before gs v
plain_up gs w zero h = let e : w ≡ 0 = omega arith in subst (λ x. plain_before gs x ≤ plain_before gs 0) (sym e) (omega arith)
plain_up gs w (suc v) h =
    ⊎_elim
    (λ l. omega (arith, plain_up gs w v (omega arith)))
    (λ l. let e : w ≡ suc v = omega arith in subst (λ x. plain_before gs x ≤ plain_before gs (suc v)) (sym e) (omega arith))
    (cases_lt w (suc v))

pub registers_up : (gs : List Gate) (w v : ℕ) → w ≤ v → registers_before gs w ≤ registers_before gs v
registers_up gs w zero h = let e : w ≡ 0 = omega arith in subst (λ x. registers_before gs x ≤ registers_before gs 0) (sym e) (omega arith)
registers_up gs w (suc v) h =
    ⊎_elim
    (λ l. omega (arith, registers_up gs w v (omega arith), rank_more gs v))
    (λ l. let e : w ≡ suc v = omega arith in subst (λ x. registers_before gs x ≤ registers_before gs (suc v)) (sym e) (omega arith))
    (cases_lt w (suc v))

-- a row that has been counted one wire further
pub row_set : (xs : List Before) (gs : List Gate) (i : ℕ) (b : Before) → RowUpTo xs gs i → i < 256 → CountsBefore gs (i + 1) b → RowUpTo (set xs (i + 1) b) gs (i + 1)
row_set xs gs i b row few h = (
  length-set xs (i + 1) b ∙ row.0,
  λ w d l. ⊎_elim
      (λ m. subst (CountsBefore gs w) (sym (get_or-set_other xs (i + 1) w b d (λ q. absurd (omega arith)))) (row.1 w d (omega arith)))
      (λ m. let at : w ≡ i + 1 = omega arith in
      subst (CountsBefore gs w) (sym (ap (λ k. get_or (set xs (i + 1) b) k d) at ∙ get_or-set_same xs (i + 1) b d (omega (arith, row.0)))) (subst (λ x. CountsBefore gs x b) (sym at) h))
      (cases_lt w (i + 1)),
)

-- one wire more
pub from_bool_small : (b : Bool) → from_bool b ≤ 1
from_bool_small true = omega arith
from_bool_small false = omega arith

from_bool_is : (b : Bool) → from_bool b ≡ cond b 1 0
from_bool_is true = refl
from_bool_is false = refl

pub counts_more : (gs : List Gate) (w : ℕ) (b : Before) (x y : ℕ) → CountsBefore gs w b → w < length gs
    → x ≡ plain_size (driver gs w) → y ≡ from_bool (is_register (get_or gs w Input)) → (b.plain + x ≡ plain_before gs (w + 1)) × (b.registers + y ≡ registers_before gs (w + 1))
counts_more gs w b x y h l e r =
    let plain : plain_before gs (w + 1) ≡ plain_before gs w + plain_size (driver gs w) = ap (plain_before gs) (add-one w) in
    let turn = count_turn is_register gs w l in
    let bit = from_bool_is (is_register (get_or gs w Input)) in
    (let k = h.0 in omega arith, let k = h.1 in omega arith)
