-- The rounds of any lawful kind end in the least solution.
use Rattle.std.proofs.Common.{◌≡◌, ℕ, zero, suc, ◌+◌, ◌-◌, ◌*◌, ◌<◌, ◌≤◌, Bool, true, false, ◌≢◌, List, length, set, replicate, sym, ap, ◌∙◌, subst, inl, inr, ⊎_elim, arith, below_more}
use Rattle.std.proofs.lemmas.List.{length-set, length-replicate, get_or-replicate, get_or-set_same, get_or-set_other, ext_get_or}
use Rattle.std.proofs.lemmas.Bool.{cases_eq, cases_Bool}
use Rattle.std.proofs.lemmas.Bool.Decides.{not_from_Decides}
use Rattle.values.specs.Kinds.{Kind, Lawful}
use Rattle.values.specs.Ranks.{total, total_le, rises}
use Rattle.gates.specs.declared.gate.Gate.{Gate}
use Rattle.solutions.specs.Solutions.{gate_at, reads, Solves, Least}
use Rattle.solutions.specs.Rounds.{round, rounds, same_row, rounds_from, most_rounds, frame_rounds, frame_row}
use Rattle.solutions.specs.Claims.{Named, RoundsEnd}
use Rattle.solutions.proofs.Firsts.{find_first}
use Rattle.gates.proofs.Names.{wires_below}
use Rattle.solutions.proofs.Wanted.{wanted_rises}
use Rattle.solutions.proofs.OneRound.{want, rounds_suc, length_rounds, still_solves}
use Rattle.solutions.proofs.Rows.{same_row_decides}

-- each of the first k rounds changes something
abbrev pub Changing : {A : Type 0} → Kind A → List Gate → (ℕ → A) → ℕ → Type 0
Changing K gs given k = (j : ℕ) → j < k → rounds K gs given (suc j) ≢ rounds K gs given j

module _ {A : Type 0} (K : Kind A) (L : Lawful K) (gs : List Gate) (named : Named gs) (given : ℕ → A) where
  abbrev update : ℕ → List A → List A
  update w xs = set xs w (want K gs given xs w)

  abbrev Up : List A → List A → Type 0
  Up xs ys = (u : ℕ) → u < length gs → K.below (reads K xs u) (reads K ys u)

  want_rises : (xs ys : List A) → Up xs ys → (w : ℕ) → w < length gs → K.below (want K gs given xs w) (want K gs given ys w)
  want_rises xs ys h w l = wanted_rises K (length gs) (reads K xs) (reads K ys) L h (gate_at gs w) (wires_below gs named w l) (given w)

  -- what every row on the way to the least solution is
  record Sound (xs : List A) : Type 0 where
    size : length xs ≡ length gs
    low : (g : ℕ → A) → Solves K gs given g → (w : ℕ) → w < length gs → K.below (reads K xs w) (g w)
    rising : (w : ℕ) → w < length gs → K.below (reads K xs w) (want K gs given xs w)

  module _ (xs : List A) (s : Sound xs) (w : ℕ) (l : w < length gs) where
    here : reads K (update w xs) w ≡ want K gs given xs w
    here = get_or-set_same xs w (want K gs given xs w) K.undefined (subst (λ k. w < k) (sym s.size) l)

    there : (u : ℕ) → u ≢ w → reads K (update w xs) u ≡ reads K xs u
    there u h = get_or-set_other xs w u (want K gs given xs w) K.undefined h

    -- what holds of the new value at w and of the old ones holds everywhere
    everywhere : (P : ℕ → A → Type 0) → P w (want K gs given xs w) → ((u : ℕ) → u < length gs → P u (reads K xs u)) → (u : ℕ) → u < length gs → P u (reads K (update w xs) u)
    everywhere P h k u m =
        ⊎_elim (λ e. subst (λ v. P v (reads K (update w xs) v)) (sym e) (subst (P w) (sym here) h)) (λ d. subst (P u) (sym (there u d)) (k u m)) (cases_eq u w)

    update_up : Up xs (update w xs)
    update_up = everywhere (λ u a. K.below (reads K xs u) a) (s.rising w l) (λ u m. L.reflexive (reads K xs u))

    update_sound : Sound (update w xs)
    update_sound = record {
      size = length-set xs w (want K gs given xs w) ∙ s.size;
      low = λ g h. everywhere (λ u a. K.below a (g u))
          (subst (λ a. K.below (want K gs given xs w) a) (sym (h w l)) (wanted_rises K (length gs) (reads K xs) g L (s.low g h) (gate_at gs w) (wires_below gs named w l) (given w)))
          (s.low g h);
      rising = everywhere (λ u a. K.below a (want K gs given (update w xs) u)) (want_rises xs (update w xs) update_up w l)
          (λ u m. L.transitive (reads K xs u) (want K gs given xs u) (want K gs given (update w xs) u) (s.rising u m) (want_rises xs (update w xs) update_up u m));
    }

  round_sound : (xs : List A) → Sound xs → (w : ℕ) → w ≤ length gs → Sound (round K gs given w xs)
  unfolding round
  round_sound xs s zero l = s
  round_sound xs s (suc w) l = update_sound (round K gs given w xs) (round_sound xs s w (omega arith)) w l

  round_up : (xs : List A) → Sound xs → (w : ℕ) → w ≤ length gs → Up xs (round K gs given w xs)
  unfolding round
  round_up xs s zero l u h = L.reflexive (reads K xs u)
  round_up xs s (suc w) l u h =
      let ys = round K gs given w xs in
      L.transitive (reads K xs u) (reads K ys u) (reads K (update w ys) u) (round_up xs s w (omega arith) u h) (update_up ys (round_sound xs s w (omega arith)) w l u h)

  rounds_sound : (k : ℕ) → Sound (rounds K gs given k)
  unfolding rounds
  rounds_sound zero =
      let none : (u : ℕ) → u < length gs → K.undefined ≡ reads K (replicate (length gs) K.undefined) u =
      λ u h. sym (get_or-replicate (length gs) u K.undefined K.undefined h) in
      record {
        size = length-replicate (length gs) K.undefined;
        low = λ g h w l. subst (λ a. K.below a (g w)) (none w l) (L.least (g w));
        rising = λ w l. subst (λ a. K.below a (want K gs given (replicate (length gs) K.undefined) w)) (none w l) (L.least (want K gs given (replicate (length gs) K.undefined) w));
      }
  rounds_sound (suc k) = round_sound (rounds K gs given k) (rounds_sound k) (length gs) (omega arith)

  -- every wire rises, and stays below each solution
  pub rounds_rise : (k w : ℕ) → w < length gs → K.below (reads K (rounds K gs given k) w) (reads K (rounds K gs given (suc k)) w)
  unfolding rounds
  rounds_rise k = round_up (rounds K gs given k) (rounds_sound k) (length gs) (omega arith)

  pub rounds_below : (k : ℕ) (g : ℕ → A) → Solves K gs given g → (w : ℕ) → w < length gs → K.below (reads K (rounds K gs given k) w) (g w)
  rounds_below k = (rounds_sound k).low

  -- a round that changes something raises the total of the ranks, which has a bound
  pub ranks_rise : (k : ℕ) → rounds K gs given (suc k) ≢ rounds K gs given k →
      total K (length gs) (reads K (rounds K gs given k)) < total K (length gs) (reads K (rounds K gs given (suc k)))
  ranks_rise k h =
      ⊎_elim
      (λ e. absurd (h (ext_get_or K.undefined (rounds K gs given (suc k)) (rounds K gs given k) (omega (arith, length_rounds K gs given (suc k), length_rounds K gs given k))
      (λ i l. sym (e i (omega (arith, length_rounds K gs given (suc k))))))))
      (λ m. m) (rises K L (length gs) (reads K (rounds K gs given k)) (reads K (rounds K gs given (suc k))) (rounds_rise k))

  pub ranks_bound : (k : ℕ) → total K (length gs) (reads K (rounds K gs given k)) ≤ length gs * K.height
  ranks_bound k = total_le K L (length gs) (reads K (rounds K gs given k))

  -- so no more than n × H rounds change something
  pub changing_ranks : (k : ℕ) → Changing K gs given k → k ≤ total K (length gs) (reads K (rounds K gs given k))
  changing_ranks zero h = omega arith
  changing_ranks (suc k) h = omega (arith, changing_ranks k (λ j l. h j (omega arith)), ranks_rise k (h k (omega arith)))

  pub changing_bound : (k : ℕ) → Changing K gs given k → k < most_rounds K gs
  changing_bound k h = omega (arith, changing_ranks k h, ranks_bound k)

  -- what the test of two rows says of a round
  pub still_true : (k : ℕ) → same_row K (rounds K gs given k) (rounds K gs given (suc k)) ≡ true → rounds K gs given (suc k) ≡ rounds K gs given k
  still_true k e = sym ((same_row_decides K L (rounds K gs given k) (rounds K gs given (suc k))).0 e)

  pub still_false : (k : ℕ) → same_row K (rounds K gs given k) (rounds K gs given (suc k)) ≡ false → rounds K gs given (suc k) ≢ rounds K gs given k
  still_false k e s = not_from_Decides (same_row K (rounds K gs given k) (rounds K gs given (suc k))) (same_row_decides K L (rounds K gs given k) (rounds K gs given (suc k))) e (sym s)

  pub changing_none : Changing K gs given 0
  changing_none j l = absurd (omega arith)

  pub changing_more : (k : ℕ) → Changing K gs given k → rounds K gs given (suc k) ≢ rounds K gs given k → Changing K gs given (k + 1)
  changing_more k h c = below_more (λ j. rounds K gs given (suc j) ≢ rounds K gs given j) k h c

  -- the count of the rounds, one by one
  module _ (limit : ℕ) (xs : List A) where
    abbrev next : List A
    next = round K gs given (length gs) xs

    abbrev from : Bool → ℕ
    from b = suc (elim b [ true ↦ 0 | false ↦ rounds_from K gs given limit next ])

    rounds_from_still : next ≡ xs → rounds_from K gs given (suc limit) xs ≡ 1
    unfolding rounds_from
    rounds_from_still e = ap from ((same_row_decides K L xs next).1 (sym e))

    rounds_from_changing : next ≢ xs → rounds_from K gs given (suc limit) xs ≡ suc (rounds_from K gs given limit next)
    unfolding rounds_from
    rounds_from_changing d =
        ap from (⊎_elim (λ e. absurd (d (sym ((same_row_decides K L xs next).0 e)))) (λ e. e) (cases_Bool (same_row K xs next)))

  counted : (k limit : ℕ) → Changing K gs given k → rounds_from K gs given (k + limit) (rounds K gs given 0) ≡ k + rounds_from K gs given limit (rounds K gs given k)
  counted zero limit h = (let e : 0 + limit ≡ limit = omega arith in ap (λ m. rounds_from K gs given m (rounds K gs given 0)) e) ∙ omega arith
  counted (suc k) limit h =
      let e : suc k + limit ≡ k + suc limit = omega arith in
      let before = counted k (suc limit) (λ j l. h j (omega arith)) in
      let here = rounds_from_changing limit (rounds K gs given k) (λ s. h k (omega arith) (rounds_suc K gs given k ∙ s)) in
      let more = ap (rounds_from K gs given limit) (rounds_suc K gs given k) in
      ap (λ m. rounds_from K gs given m (rounds K gs given 0)) e ∙ omega arith

  -- The first round that changes nothing is the last.
  pub rounds_first : (k : ℕ) → Changing K gs given k → rounds K gs given (suc k) ≡ rounds K gs given k → frame_rounds K gs given ≡ suc k
  rounds_first k h still =
      let rest = most_rounds K gs - suc k in
      let e : most_rounds K gs ≡ k + suc rest = omega (arith, changing_bound k h) in
      let start = ap (λ m. rounds_from K gs given m (rounds K gs given 0)) e in
      let before = counted k (suc rest) h in
      let last = rounds_from_still rest (rounds K gs given k) (sym (rounds_suc K gs given k) ∙ still) in
      omega arith

  -- and its row is what the rounds leave
  pub frame_row_first : (k : ℕ) → Changing K gs given k → rounds K gs given (suc k) ≡ rounds K gs given k → frame_row K gs given ≡ rounds K gs given k
  frame_row_first k h still = ap (rounds K gs given) (rounds_first k h still) ∙ still

  pub still_least : (k : ℕ) → rounds K gs given (suc k) ≡ rounds K gs given k → Least K gs given (reads K (rounds K gs given k))
  still_least k still = record {
    solves = still_solves K gs given (rounds K gs given k) (length_rounds K gs given k) (sym (rounds_suc K gs given k) ∙ still) named;
    lowest = rounds_below k;
  }

  pub rounds_end : RoundsEnd K gs given
  rounds_end =
      ⊎_elim
      (λ r. record {
        changing = r.0;
        count = rounds_first r.0 r.3 r.2;
        still = r.2;
        before = r.3;
        bound = omega (arith, rounds_first r.0 r.3 r.2, r.1);
        size = length_rounds K gs given (frame_rounds K gs given);
        least = subst (λ xs. Least K gs given (reads K xs)) (sym (frame_row_first r.0 r.3 r.2)) (still_least r.0 r.2);
      })
      (λ h. absurd (omega (arith, changing_bound (most_rounds K gs) h)))
      (find_first (λ k. rounds K gs given (suc k) ≡ rounds K gs given k) (λ k. rounds K gs given (suc k) ≢ rounds K gs given k)
      (λ k. ⊎_elim (λ e. inl (still_true k e)) (λ e. inr (still_false k e)) (cases_Bool (same_row K (rounds K gs given k) (rounds K gs given (suc k)))))
      (most_rounds K gs))
