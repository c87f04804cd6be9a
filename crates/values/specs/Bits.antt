-- The bits of words: what each operation does to them, and that they determine the word.
use Rattle.std.specs.Prelude.{◌≡◌, ℕ, zero, suc, ◌+◌, ◌*◌, ◌/◌, ◌%◌, ◌^◌, ◌<◌, Bool, true, false, not, ◌&&◌, ◌||◌, ◌==◌, nat_eq, refl}
use Rattle.std.proofs.Common.{sym, ap, ◌∙◌, true≢false, pow-suc, div-one, mod-lt, div-add-mod', lt_of_lt_of_le, one-add, arith, pow_pos, pow_mono}
use Rattle.std.proofs.Math.Nat.{zero-div, div-eq_of_lt}
use Rattle.std.specs.Int.Bits.{bit_and, bit_or, bit_xor, and_lt}
use Rattle.std.proofs.lemmas.Nat.{shr-shr, shr_high, mod_low, div_below, and_shr, or_shr, xor_shr, and_mod, or_mod, xor_mod}
use Rattle.values.specs.Words.{bit, digit, digit_lt, packed}

-- one is up and the other is not
abbrev pub differ : Bool → Bool → Bool
differ true b = not b
differ false b = b

two : 0 < 2
two = omega arith

low_and : (a b : ℕ) → a < 2 → b < 2 → (bit_and a b == 1) ≡ (a == 1 && b == 1)
low_and zero b h k = refl
low_and (suc zero) zero h k = refl
low_and (suc zero) (suc zero) h k = refl
low_and (suc zero) (suc (suc b)) h k = absurd (omega arith)
low_and (suc (suc a)) b h k = absurd (omega arith)

low_or : (a b : ℕ) → a < 2 → b < 2 → (bit_or a b == 1) ≡ (a == 1 || b == 1)
low_or zero b h k = refl
low_or (suc zero) zero h k = refl
low_or (suc zero) (suc zero) h k = refl
low_or (suc zero) (suc (suc b)) h k = absurd (omega arith)
low_or (suc (suc a)) b h k = absurd (omega arith)

low_xor : (a b : ℕ) → a < 2 → b < 2 → (bit_xor a b == 1) ≡ differ (a == 1) (b == 1)
low_xor zero b h k = refl
low_xor (suc zero) zero h k = refl
low_xor (suc zero) (suc zero) h k = refl
low_xor (suc zero) (suc (suc b)) h k = absurd (omega arith)
low_xor (suc (suc a)) b h k = absurd (omega arith)

pub bit_of_and : (k x y : ℕ) → bit k (bit_and x y) ≡ (bit k x && bit k y)
bit_of_and k x y =
    ap (λ (z : ℕ). nat_eq (z % 2) 1) (and_shr x y k) ∙ ap (λ (z : ℕ). nat_eq z 1) (and_mod (x / 2 ^ k) (y / 2 ^ k) 1)
    ∙ low_and (x / 2 ^ k % 2) (y / 2 ^ k % 2) (mod-lt (x / 2 ^ k) two) (mod-lt (y / 2 ^ k) two)

pub bit_of_or : (k x y : ℕ) → bit k (bit_or x y) ≡ (bit k x || bit k y)
bit_of_or k x y =
    ap (λ (z : ℕ). nat_eq (z % 2) 1) (or_shr x y k) ∙ ap (λ (z : ℕ). nat_eq z 1) (or_mod (x / 2 ^ k) (y / 2 ^ k) 1)
    ∙ low_or (x / 2 ^ k % 2) (y / 2 ^ k % 2) (mod-lt (x / 2 ^ k) two) (mod-lt (y / 2 ^ k) two)

pub bit_of_xor : (k x y : ℕ) → bit k (bit_xor x y) ≡ differ (bit k x) (bit k y)
bit_of_xor k x y =
    ap (λ (z : ℕ). nat_eq (z % 2) 1) (xor_shr x y k) ∙ ap (λ (z : ℕ). nat_eq z 1) (xor_mod (x / 2 ^ k) (y / 2 ^ k) 1)
    ∙ low_xor (x / 2 ^ k % 2) (y / 2 ^ k % 2) (mod-lt (x / 2 ^ k) two) (mod-lt (y / 2 ^ k) two)

pub bit_zero : (k : ℕ) → bit k 0 ≡ false
bit_zero k = ap (λ (z : ℕ). nat_eq (z % 2) 1) (zero-div (2 ^ k))

-- the first bit of a word, and the others as those of its half
bit_first : (x : ℕ) → bit 0 x ≡ (x % 2 == 1)
bit_first x = ap (λ (z : ℕ). nat_eq (z % 2) 1) (div-one x)

bit_next : (k x : ℕ) → bit (suc k) x ≡ bit k (x / 2)
bit_next k x = ap (λ (z : ℕ). nat_eq (z % 2) 1) (sym (shr-shr x 1 k ∙ ap (λ (j : ℕ). x / 2 ^ j) (one-add k)))

bit_digit : (b : Bool) → (digit b == 1) ≡ b
bit_digit true = refl
bit_digit false = refl

pub bit_packed : (n : ℕ) (f : ℕ → Bool) (k : ℕ) → k < n → bit k (packed n f) ≡ f k
unfolding packed
bit_packed zero f k l = absurd (omega arith)
bit_packed (suc n) f zero l =
    bit_first (packed n (λ k. f (suc k)) * 2 + digit (f 0))
    ∙ ap (λ (z : ℕ). nat_eq z 1) (mod_low (packed n (λ k. f (suc k))) 1 (digit (f 0)) (digit_lt (f 0))) ∙ bit_digit (f 0)
bit_packed (suc n) f (suc k) l =
    bit_next k (packed n (λ k. f (suc k)) * 2 + digit (f 0))
    ∙ ap (bit k) (shr_high (packed n (λ k. f (suc k))) 1 (digit (f 0)) (digit_lt (f 0)))
    ∙ bit_packed n (λ k. f (suc k)) k (omega arith)

low_same : (a b : ℕ) → a < 2 → b < 2 → (a == 1) ≡ (b == 1) → a ≡ b
low_same zero zero h k e = refl
low_same zero (suc zero) h k e = absurd (true≢false (sym e))
low_same zero (suc (suc b)) h k e = absurd (omega arith)
low_same (suc zero) zero h k e = absurd (true≢false e)
low_same (suc zero) (suc zero) h k e = refl
low_same (suc zero) (suc (suc b)) h k e = absurd (omega arith)
low_same (suc (suc a)) b h k e = absurd (omega arith)

-- two words of n bits whose bits are equal are equal
pub same_bits : (n x y : ℕ) → x < 2 ^ n → y < 2 ^ n → ((k : ℕ) → k < n → bit k x ≡ bit k y) → x ≡ y
same_bits zero x y h k e = omega arith
same_bits (suc n) x y h k e =
    let p = pow-suc 2 n in
    let halves = same_bits n (x / 2) (y / 2) (div_below x 2 (2 ^ n) two (omega arith)) (div_below y 2 (2 ^ n) two (omega arith))
    (λ j l. sym (bit_next j x) ∙ e (suc j) (omega arith) ∙ bit_next j y) in
    let low = low_same (x % 2) (y % 2) (mod-lt x two) (mod-lt y two) (sym (bit_first x) ∙ e 0 (omega arith) ∙ bit_first y) in
    omega (arith, div-add-mod' x 2, div-add-mod' y 2)

-- the bits of a word of n bits from n on are 0
pub bit_above : (n k x : ℕ) → x < 2 ^ n → (k < n → ⊥) → bit k x ≡ false
bit_above n k x h l =
    let m : x < 2 ^ k = lt_of_lt_of_le h (pow_mono {i = n} {j = k} (omega arith)) in
    ap (λ (z : ℕ). nat_eq (z % 2) 1) (div-eq_of_lt m)

-- two words without a common bit
pub apart_bits : (n x y : ℕ) → x < 2 ^ n → y < 2 ^ n → ((k : ℕ) → (bit k x && bit k y) ≡ false) → bit_and x y ≡ 0
apart_bits n x y h k e = same_bits n (bit_and x y) 0 (and_lt n x y h k) (pow_pos n) (λ j l. bit_of_and j x y ∙ e j ∙ sym (bit_zero j))
