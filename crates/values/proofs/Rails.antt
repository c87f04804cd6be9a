-- The gates of the lane kind: bit k of their two words is the two rails of the single kind's gate on lane k.
use Rattle.std.proofs.Common.{◌≡◌, ℕ, ◌^◌, ◌<◌, Bool, true, false, ◌&&◌, ◌||◌, refl, ap, ap₂, ◌∙◌}
use Rattle.std.specs.Int.Bits.{bit_and, bit_or, bit_xor}
use Rattle.values.specs.declared.single.Value.{Value}
use Rattle.values.specs.declared.single.Value.TheVariants.{Undefined, Zero, One}
use Rattle.values.specs.declared.lanes.Lanes.{Lanes}
use Rattle.values.specs.Single.{is0, is1, from_rails, single}
use Rattle.values.specs.Words.{bit, not_both}
use Rattle.values.specs.Lanes.{lane, read, by_lane}
use Rattle.values.specs.Bits.{differ, bit_of_and, bit_of_or, bit_of_xor, apart_bits}
use Rattle.values.specs.ByLane.{from_is, lane_zero, lane_one, lanes_are}

-- bit k of the first word is rail 0 of f k, and bit k of the second its rail 1
abbrev pub Rails : ℕ → ℕ → (ℕ → Value) → Type 0
Rails zeros ones f = (k : ℕ) → (bit k zeros ≡ is0 (f k)) × (bit k ones ≡ is1 (f k))

pub rails_apart : (zeros ones : ℕ) (f : ℕ → Value) → zeros < 2 ^ 64 → ones < 2 ^ 64 → Rails zeros ones f → bit_and zeros ones ≡ 0
rails_apart zeros ones f h l r = apart_bits 64 zeros ones h l (λ k. ap₂ ◌&&◌ (r k).0 (r k).1 ∙ not_both (f k))

pub rails_lanes : (x : Lanes) (f : ℕ → Value) → Rails x.zeros x.ones f → x ≡ by_lane f
rails_lanes x f r = lanes_are x f (λ k l. ap₂ from_rails (r k).0 (r k).1 ∙ from_is (f k))

-- tests of two bits, or of two values, that agree in each case
by_bits : (f g : Bool → Bool → Bool) → f false false ≡ g false false → f false true ≡ g false true → f true false ≡ g true false → f true true ≡ g true true
    → (a b : Bool) → f a b ≡ g a b
by_bits f g ff ft tf tt false false = ff
by_bits f g ff ft tf tt false true = ft
by_bits f g ff ft tf tt true false = tf
by_bits f g ff ft tf tt true true = tt

by_values : (f g : Value → Value → Bool)
    → f Undefined Undefined ≡ g Undefined Undefined → f Undefined Zero ≡ g Undefined Zero → f Undefined One ≡ g Undefined One
    → f Zero Undefined ≡ g Zero Undefined → f Zero Zero ≡ g Zero Zero → f Zero One ≡ g Zero One
    → f One Undefined ≡ g One Undefined → f One Zero ≡ g One Zero → f One One ≡ g One One
    → (v w : Value) → f v w ≡ g v w
by_values f g uu uz uo zu zz zo ou oz oo Undefined Undefined = uu
by_values f g uu uz uo zu zz zo ou oz oo Undefined Zero = uz
by_values f g uu uz uo zu zz zo ou oz oo Undefined One = uo
by_values f g uu uz uo zu zz zo ou oz oo Zero Undefined = zu
by_values f g uu uz uo zu zz zo ou oz oo Zero Zero = zz
by_values f g uu uz uo zu zz zo ou oz oo Zero One = zo
by_values f g uu uz uo zu zz zo ou oz oo One Undefined = ou
by_values f g uu uz uo zu zz zo ou oz oo One Zero = oz
by_values f g uu uz uo zu zz zo ou oz oo One One = oo

pub new_rails : (zeros ones : ℕ) → Rails (bit_xor zeros (bit_and zeros ones)) (bit_xor ones (bit_and zeros ones)) (λ k. read (bit k zeros) (bit k ones))
new_rails zeros ones k = (
  bit_of_xor k zeros (bit_and zeros ones) ∙ ap (differ (bit k zeros)) (bit_of_and k zeros ones)
      ∙ by_bits (λ a b. differ a (a && b)) (λ a b. is0 (read a b)) refl refl refl refl (bit k zeros) (bit k ones),
  bit_of_xor k ones (bit_and zeros ones) ∙ ap (differ (bit k ones)) (bit_of_and k zeros ones)
      ∙ by_bits (λ a b. differ b (a && b)) (λ a b. is1 (read a b)) refl refl refl refl (bit k zeros) (bit k ones),
)

-- bit k of two words, and of what an operation makes of them
module _ (k x y : ℕ) {a b : Bool} (p : bit k x ≡ a) (q : bit k y ≡ b) where
  and_bits : bit k (bit_and x y) ≡ (a && b)
  and_bits = bit_of_and k x y ∙ ap₂ ◌&&◌ p q

  or_bits : bit k (bit_or x y) ≡ (a || b)
  or_bits = bit_of_or k x y ∙ ap₂ ◌||◌ p q

pub not_rails : (x : Lanes) → Rails x.ones x.zeros (λ k. single.not (lane k x))
not_rails x k = (lane_one k x ∙ by_value (λ v. is1 v) (λ v. is0 (single.not v)) refl refl refl (lane k x), lane_zero k x ∙ by_value (λ v. is0 v) (λ v. is1 (single.not v)) refl refl refl (lane k x))
  where
    by_value : (f g : Value → Bool) → f Undefined ≡ g Undefined → f Zero ≡ g Zero → f One ≡ g One → (v : Value) → f v ≡ g v
    by_value f g u z o Undefined = u
    by_value f g u z o Zero = z
    by_value f g u z o One = o

pub and_rails : (x y : Lanes) → Rails (bit_or x.zeros y.zeros) (bit_and x.ones y.ones) (λ k. single.and (lane k x) (lane k y))
and_rails x y k = (
  or_bits k _ _ (lane_zero k x) (lane_zero k y)
      ∙ by_values (λ v w. is0 v || is0 w) (λ v w. is0 (single.and v w)) refl refl refl refl refl refl refl refl refl (lane k x) (lane k y),
  and_bits k _ _ (lane_one k x) (lane_one k y)
      ∙ by_values (λ v w. is1 v && is1 w) (λ v w. is1 (single.and v w)) refl refl refl refl refl refl refl refl refl (lane k x) (lane k y),
)

pub or_rails : (x y : Lanes) → Rails (bit_and x.zeros y.zeros) (bit_or x.ones y.ones) (λ k. single.or (lane k x) (lane k y))
or_rails x y k = (
  and_bits k _ _ (lane_zero k x) (lane_zero k y)
      ∙ by_values (λ v w. is0 v && is0 w) (λ v w. is0 (single.or v w)) refl refl refl refl refl refl refl refl refl (lane k x) (lane k y),
  or_bits k _ _ (lane_one k x) (lane_one k y)
      ∙ by_values (λ v w. is1 v || is1 w) (λ v w. is1 (single.or v w)) refl refl refl refl refl refl refl refl refl (lane k x) (lane k y),
)

pub implies_rails : (x y : Lanes) → Rails (bit_and x.ones y.zeros) (bit_or x.zeros y.ones) (λ k. single.implies (lane k x) (lane k y))
implies_rails x y k = (
  and_bits k _ _ (lane_one k x) (lane_zero k y)
      ∙ by_values (λ v w. is1 v && is0 w) (λ v w. is0 (single.implies v w)) refl refl refl refl refl refl refl refl refl (lane k x) (lane k y),
  or_bits k _ _ (lane_zero k x) (lane_one k y)
      ∙ by_values (λ v w. is0 v || is1 w) (λ v w. is1 (single.implies v w)) refl refl refl refl refl refl refl refl refl (lane k x) (lane k y),
)

pub xor_rails : (x y : Lanes) → Rails (bit_or (bit_and x.zeros y.zeros) (bit_and x.ones y.ones)) (bit_or (bit_and x.zeros y.ones) (bit_and x.ones y.zeros)) (λ k. single.xor (lane k x) (lane k y))
xor_rails x y k = (
  or_bits k _ _ (and_bits k _ _ (lane_zero k x) (lane_zero k y)) (and_bits k _ _ (lane_one k x) (lane_one k y))
      ∙ by_values (λ v w. (is0 v && is0 w) || (is1 v && is1 w)) (λ v w. is0 (single.xor v w)) refl refl refl refl refl refl refl refl refl (lane k x) (lane k y),
  or_bits k _ _ (and_bits k _ _ (lane_zero k x) (lane_one k y)) (and_bits k _ _ (lane_one k x) (lane_zero k y))
      ∙ by_values (λ v w. (is0 v && is1 w) || (is1 v && is0 w)) (λ v w. is1 (single.xor v w)) refl refl refl refl refl refl refl refl refl (lane k x) (lane k y),
)
