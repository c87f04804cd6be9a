-- The lane kind keeps the laws of a kind, and is the single kind lane by lane.
use Rattle.std.proofs.Common.{sym, ap, subst, subst₂, ⊎_elim, arith}
use Rattle.std.specs.Prelude.{ℕ, ◌<◌, ◌==◌, refl}
use Rattle.std.proofs.lemmas.Bool.{eqb-true, eq-eqb, and_parts, and_from}
use Rattle.values.specs.declared.single.Value.{Value}
use Rattle.values.specs.declared.lanes.Lanes.{Lanes}
use Rattle.values.specs.Kinds.{Lawful}
use Rattle.values.specs.Single.{single}
use Rattle.values.specs.Lanes.{lane, by_lane, lanes, Lanewise}
use Rattle.values.specs.Singles.{single_lawful}
use Rattle.values.specs.Ranks.{total_le, rises}
use Rattle.values.specs.ByLane.{same_words, same_lanes, lane_by_lane}

-- of two rows, one below the other in each lane, the lanes made of them are so
below_by_lane : (f g : ℕ → Value) → ((k : ℕ) → k < 64 → single.below (f k) (g k)) → lanes.below (by_lane f) (by_lane g)
below_by_lane f g h k l = subst₂ single.below (sym (lane_by_lane f k l)) (sym (lane_by_lane g k l)) (h k l)

pub lanes_lawful : Lawful lanes
lanes_lawful = record {
  reflexive = λ a k l. single_lawful.reflexive (lane k a);
  transitive = λ a b c h g k l. single_lawful.transitive (lane k a) (lane k b) (lane k c) (h k l) (g k l);
  antisymmetric = λ a b h g. same_lanes a b (λ k l. single_lawful.antisymmetric (lane k a) (lane k b) (h k l) (g k l));
  least = λ a k l. subst (λ v. single.below v (lane k a)) (sym (lane_by_lane (λ j. single.undefined) k l)) (single_lawful.least (lane k a));
  not_rises = λ a b h. below_by_lane (λ k. single.not (lane k a)) (λ k. single.not (lane k b))
      (λ k l. single_lawful.not_rises (lane k a) (lane k b) (h k l));
  and_rises = λ a b c e h g. below_by_lane (λ k. single.and (lane k a) (lane k c)) (λ k. single.and (lane k b) (lane k e))
      (λ k l. single_lawful.and_rises (lane k a) (lane k b) (lane k c) (lane k e) (h k l) (g k l));
  or_rises = λ a b c e h g. below_by_lane (λ k. single.or (lane k a) (lane k c)) (λ k. single.or (lane k b) (lane k e))
      (λ k l. single_lawful.or_rises (lane k a) (lane k b) (lane k c) (lane k e) (h k l) (g k l));
  implies_rises = λ a b c e h g. below_by_lane (λ k. single.implies (lane k a) (lane k c)) (λ k. single.implies (lane k b) (lane k e))
      (λ k l. single_lawful.implies_rises (lane k a) (lane k b) (lane k c) (lane k e) (h k l) (g k l));
  xor_rises = λ a b c e h g. below_by_lane (λ k. single.xor (lane k a) (lane k c)) (λ k. single.xor (lane k b) (lane k e))
      (λ k l. single_lawful.xor_rises (lane k a) (lane k b) (lane k c) (lane k e) (h k l) (g k l));
  rank_rises = λ a b h d. ⊎_elim (λ e. absurd (d (same_lanes a b e))) (λ m. m) (rises single single_lawful 64 (λ k. lane k a) (λ k. lane k b) h);
  rank_bound = λ a. total_le single single_lawful 64 (λ k. lane k a);
  height_bound = omega arith;
  compared = λ a b. (
    λ e. let p = and_parts (a.zeros == b.zeros) (a.ones == b.ones) e in
        same_words a b (eqb-true a.zeros b.zeros p.0) (eqb-true a.ones b.ones p.1),
    λ e. and_from (a.zeros == b.zeros) (a.ones == b.ones)
        (eq-eqb a.zeros b.zeros (ap (λ (x : Lanes). x.zeros) e)) (eq-eqb a.ones b.ones (ap (λ (x : Lanes). x.ones) e)),
  );
}

pub lanewise : Lanewise
lanewise = record {
  undefined = lane_by_lane (λ k. single.undefined);
  zero = lane_by_lane (λ k. single.zero);
  one = lane_by_lane (λ k. single.one);
  not = λ x. lane_by_lane (λ k. single.not (lane k x));
  and = λ x y. lane_by_lane (λ k. single.and (lane k x) (lane k y));
  or = λ x y. lane_by_lane (λ k. single.or (lane k x) (lane k y));
  implies = λ x y. lane_by_lane (λ k. single.implies (lane k x) (lane k y));
  xor = λ x y. lane_by_lane (λ k. single.xor (lane k x) (lane k y));
  below = λ x y. (λ h. h, λ h. h);
  equal = same_lanes;
  rank = λ x. refl;
}
