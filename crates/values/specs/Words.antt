-- Words as rows of bits.
use Rattle.std.specs.Prelude.{◌≡◌, ℕ, zero, suc, ◌+◌, ◌*◌, ◌/◌, ◌%◌, ◌^◌, ◌<◌, Bool, true, false, ◌&&◌, ◌==◌, bit_and, refl}
use Rattle.std.proofs.Common.{◌∙◌, true≢false, pow-suc, arith}
use Rattle.std.proofs.lemmas.Nat.{and_block}
use Rattle.values.specs.declared.single.Value.{Value}
use Rattle.values.specs.declared.single.Value.TheVariants.{Undefined, Zero, One}
use Rattle.values.specs.Single.{is0, is1}

-- bit k of the number x
abbrev pub bit : ℕ → ℕ → Bool
bit k x = x / 2 ^ k % 2 == 1

abbrev pub digit : Bool → ℕ
digit true = 1
digit false = 0

-- the number whose bit k is f k for each k < n, and 0 for every other
unfoldable pub packed : ℕ → (ℕ → Bool) → ℕ
packed zero f = 0
packed (suc n) f = packed n (λ k. f (suc k)) * 2 + digit (f 0)

-- The rest proves what the type of lanes asks of its two words: that they fit, and that no lane has both rails up.
pub digit_lt : (b : Bool) → digit b < 2
digit_lt true = omega arith
digit_lt false = omega arith

pub packed_lt : (n : ℕ) (f : ℕ → Bool) → packed n f < 2 ^ n
unfolding packed
packed_lt zero f = omega arith
packed_lt (suc n) f = omega (arith, packed_lt n (λ k. f (suc k)), digit_lt (f 0), pow-suc 2 n)

digits_apart : (b c : Bool) → (b && c) ≡ false → bit_and (digit b) (digit c) ≡ 0
digits_apart true true e = absurd (true≢false e)
digits_apart true false e = refl
digits_apart false c e = refl

packed_apart : (n : ℕ) (f g : ℕ → Bool) → ((k : ℕ) → (f k && g k) ≡ false) → bit_and (packed n f) (packed n g) ≡ 0
unfolding packed
packed_apart zero f g h = refl
packed_apart (suc n) f g h =
    and_block 1 (packed n (λ k. f (suc k))) (packed n (λ k. g (suc k))) (digit (f 0)) (digit (g 0)) (digit_lt (f 0)) (digit_lt (g 0))
    ∙ omega (arith, packed_apart n (λ k. f (suc k)) (λ k. g (suc k)) (λ k. h (suc k)), digits_apart (f 0) (g 0) (h 0))

pub not_both : (x : Value) → (is0 x && is1 x) ≡ false
not_both Undefined = refl
not_both Zero = refl
not_both One = refl

pub rails_apart : (n : ℕ) (f : ℕ → Value) → bit_and (packed n (λ k. is0 (f k))) (packed n (λ k. is1 (f k))) ≡ 0
rails_apart n f = packed_apart n (λ k. is0 (f k)) (λ k. is1 (f k)) (λ k. not_both (f k))
