-- The lanes of two words, and what determines them.
use Rattle.std.specs.Prelude.{◌≡◌, ℕ, ◌^◌, ◌<◌, ◌≤◌, Bool, true, false, ◌&&◌, refl}
use Rattle.std.proofs.Common.{sym, ap, ap₂, ◌∙◌, true≢false, arith}
use mathlib.Core.HLevel.{is_prop→PathP, ×_prop}
use Rattle.std.proofs.Math.Bridge.{le_prop}
use Rattle.std.proofs.Math.Nat.{ℕ_set}
use Rattle.std.specs.Int.Bits.{bit_and}
use Rattle.values.specs.declared.single.Value.{Value}
use Rattle.values.specs.declared.single.Value.TheVariants.{Undefined, Zero, One}
use Rattle.values.specs.declared.lanes.Lanes.{Lanes}
use Rattle.values.specs.Single.{is0, is1, from_rails}
use Rattle.values.specs.Words.{bit, packed}
use Rattle.values.specs.Lanes.{lane, by_lane}
use Rattle.values.specs.Bits.{bit_of_and, bit_zero, bit_packed, bit_above, same_bits}

-- equal words make equal lanes
pub same_words : (x y : Lanes) → x.zeros ≡ y.zeros → x.ones ≡ y.ones → x ≡ y
same_words x y p q =
    λ i. record {
      zeros = p i;
      ones = q i;
      words = is_prop→PathP (λ j. (p j < 2 ^ 64) × (q j < 2 ^ 64)) (λ j. ×_prop le_prop le_prop) x.words y.words i;
      apart = is_prop→PathP (λ j. bit_and (p j) (q j) ≡ 0) (λ j. ℕ_set (bit_and (p j) (q j)) 0) x.apart y.apart i;
    }

is0_from : (a b : Bool) → is0 (from_rails a b) ≡ a
is0_from true b = refl
is0_from false true = refl
is0_from false false = refl

is1_from : (a b : Bool) → (a && b) ≡ false → is1 (from_rails a b) ≡ b
is1_from true true e = absurd (true≢false e)
is1_from true false e = refl
is1_from false true e = refl
is1_from false false e = refl

pub from_is : (x : Value) → from_rails (is0 x) (is1 x) ≡ x
from_is Undefined = refl
from_is Zero = refl
from_is One = refl

bits_apart : (k : ℕ) (x : Lanes) → (bit k x.zeros && bit k x.ones) ≡ false
bits_apart k x = sym (bit_of_and k x.zeros x.ones) ∙ ap (bit k) x.apart ∙ bit_zero k

-- the rails of lane k are the bits k of the words
pub lane_zero : (k : ℕ) (x : Lanes) → bit k x.zeros ≡ is0 (lane k x)
lane_zero k x = sym (is0_from (bit k x.zeros) (bit k x.ones))

pub lane_one : (k : ℕ) (x : Lanes) → bit k x.ones ≡ is1 (lane k x)
lane_one k x = sym (is1_from (bit k x.zeros) (bit k x.ones) (bits_apart k x))

-- from 64 on a lane is undefined
pub lane_above : (k : ℕ) (x : Lanes) → 64 ≤ k → lane k x ≡ Undefined
lane_above k x h =
    ap₂ from_rails (bit_above 64 k x.zeros x.words.0 (λ l. omega arith)) (bit_above 64 k x.ones x.words.1 (λ l. omega arith))

pub lane_by_lane : (f : ℕ → Value) (k : ℕ) → k < 64 → lane k (by_lane f) ≡ f k
unfolding by_lane
lane_by_lane f k l =
    ap₂ from_rails (bit_packed 64 (λ j. is0 (f j)) k l) (bit_packed 64 (λ j. is1 (f j)) k l) ∙ from_is (f k)

-- equal lanes make equal words
pub same_lanes : (x y : Lanes) → ((k : ℕ) → k < 64 → lane k x ≡ lane k y) → x ≡ y
same_lanes x y h =
    same_words x y
    (same_bits 64 x.zeros y.zeros x.words.0 y.words.0 (λ k l. lane_zero k x ∙ ap is0 (h k l) ∙ sym (lane_zero k y)))
    (same_bits 64 x.ones y.ones x.words.1 y.words.1 (λ k l. lane_one k x ∙ ap is1 (h k l) ∙ sym (lane_one k y)))

pub lanes_are : (x : Lanes) (f : ℕ → Value) → ((k : ℕ) → k < 64 → lane k x ≡ f k) → x ≡ by_lane f
lanes_are x f h = same_lanes x (by_lane f) (λ k l. h k l ∙ sym (lane_by_lane f k l))

-- the same value in every lane
abbrev pub full : Bool → ℕ
full true = 0xffff_ffff_ffff_ffff
full false = 0

packed_full : (b : Bool) → full b ≡ packed 64 (λ k. b)
unfolding packed
packed_full true = refl
packed_full false = refl

pub splat_is : (x : Lanes) (v : Value) → x.zeros ≡ full (is0 v) → x.ones ≡ full (is1 v) → x ≡ by_lane (λ k. v)
unfolding by_lane
splat_is x v p q = same_words x (by_lane (λ k. v)) (p ∙ packed_full (is0 v)) (q ∙ packed_full (is1 v))
