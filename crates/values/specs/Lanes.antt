-- The lane kind: 64 single values side by side.
use Rattle.std.specs.Prelude.{◌≡◌, ℕ, ◌<◌, Bool, true, false, ◌&&◌, ◌↔◌, ◌==◌}
use Rattle.values.specs.declared.single.Value.{Value}
use Rattle.values.specs.declared.single.Value.TheVariants.{Undefined, Zero, One}
use Rattle.values.specs.declared.lanes.Lanes.{Lanes}
use Rattle.values.specs.Kinds.{Kind}
use Rattle.values.specs.Single.{is0, is1, from_rails, single}
use Rattle.values.specs.Sums.{sum}
use Rattle.values.specs.Words.{bit, packed, packed_lt, rails_apart}

-- lane k: its two rails are bit k of the two words
abbrev pub lane : ℕ → Lanes → Value
lane k x = from_rails (bit k x.zeros) (bit k x.ones)

-- the value of two bits of which both may be up
abbrev pub read : Bool → Bool → Value
read true true = Undefined
read true false = Zero
read false true = One
read false false = Undefined

-- the lanes of which lane k is f k for each k < 64
unfoldable pub by_lane : (ℕ → Value) → Lanes
by_lane f = record {
  zeros = packed 64 (λ k. is0 (f k));
  ones = packed 64 (λ k. is1 (f k));
  words = (packed_lt 64 (λ k. is0 (f k)), packed_lt 64 (λ k. is1 (f k)));
  apart = rails_apart 64 f;
}

-- Each gate is the single kind's, lane by lane, and so is the order.
abbrev pub lanes : Kind Lanes
lanes = record {
  undefined = by_lane (λ k. single.undefined);
  zero = by_lane (λ k. single.zero);
  one = by_lane (λ k. single.one);
  not = λ x. by_lane (λ k. single.not (lane k x));
  and = λ x y. by_lane (λ k. single.and (lane k x) (lane k y));
  or = λ x y. by_lane (λ k. single.or (lane k x) (lane k y));
  implies = λ x y. by_lane (λ k. single.implies (lane k x) (lane k y));
  xor = λ x y. by_lane (λ k. single.xor (lane k x) (lane k y));
  below = λ x y. (k : ℕ) → k < 64 → single.below (lane k x) (lane k y);
  -- how many lanes are defined
  rank = λ x. sum 64 (λ k. single.rank (lane k x));
  height = 64;
  same = λ x y. (x.zeros == y.zeros) && (x.ones == y.ones);
}

abbrev pub Constant : Lanes → Value → Type 0
Constant x v = (k : ℕ) → k < 64 → lane k x ≡ v

abbrev pub ByLane : (Lanes → Lanes) → (Value → Value) → Type 0
ByLane op by = (x : Lanes) (k : ℕ) → k < 64 → lane k (op x) ≡ by (lane k x)

abbrev pub ByLane₂ : (Lanes → Lanes → Lanes) → (Value → Value → Value) → Type 0
ByLane₂ op by = (x y : Lanes) (k : ℕ) → k < 64 → lane k (op x y) ≡ by (lane k x) (lane k y)

-- The lane kind is 64 copies of the single kind.
pub record Lanewise : Type 0 where
  pub undefined : Constant lanes.undefined single.undefined
  pub zero : Constant lanes.zero single.zero
  pub one : Constant lanes.one single.one
  pub not : ByLane lanes.not single.not
  pub and : ByLane₂ lanes.and single.and
  pub or : ByLane₂ lanes.or single.or
  pub implies : ByLane₂ lanes.implies single.implies
  pub xor : ByLane₂ lanes.xor single.xor
  pub below : (x y : Lanes) → lanes.below x y ↔ ((k : ℕ) → k < 64 → single.below (lane k x) (lane k y))
  -- the lanes are all that there is
  pub equal : (x y : Lanes) → ((k : ℕ) → k < 64 → lane k x ≡ lane k y) → x ≡ y
  pub rank : (x : Lanes) → lanes.rank x ≡ sum 64 (λ k. single.rank (lane k x))
