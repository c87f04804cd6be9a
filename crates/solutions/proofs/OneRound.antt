-- One round, wire by wire, for any kind.
use Rattle.std.proofs.Common.{◌≡◌, ℕ, zero, suc, ◌+◌, ◌<◌, ◌≤◌, List, length, get_or, set, replicate, sym, refl, ap, ◌∙◌, subst, ⊎_elim, add-one, arith}
use Rattle.std.proofs.lemmas.List.{length-set, length-replicate, get_or-replicate, get_or-set_same, get_or-set_other}
use Rattle.std.proofs.lemmas.Bool.{cases_eq, cases_lt}
use Rattle.values.specs.Kinds.{Kind}
use Rattle.gates.specs.declared.gate.Gate.{Gate}
use Rattle.solutions.specs.Solutions.{gate_at, reads, wanted, Solves}
use Rattle.solutions.specs.Rounds.{round, rounds}
use Rattle.solutions.specs.Claims.{Named}
use Rattle.gates.proofs.Names.{wires_below}
use Rattle.solutions.proofs.Wanted.{Related, wanted_related, related_below, wanted_same}

-- the value that wire w wants of a row
abbrev pub want : {A : Type 0} → Kind A → List Gate → (ℕ → A) → List A → ℕ → A
want K gs given xs w = wanted K (gate_at gs w) (given w) (reads K xs)

module _ {A : Type 0} (K : Kind A) (gs : List Gate) (given : ℕ → A) where
  pub round_none : (xs : List A) → round K gs given 0 xs ≡ xs
  unfolding round
  round_none xs = refl

  pub round_suc : (w : ℕ) (xs : List A) → round K gs given (suc w) xs ≡ set (round K gs given w xs) w (want K gs given (round K gs given w xs) w)
  unfolding round
  round_suc w xs = refl

  pub round_more : (w : ℕ) (xs : List A) → round K gs given (w + 1) xs ≡ set (round K gs given w xs) w (want K gs given (round K gs given w xs) w)
  round_more w xs = rw add-one (round_suc w xs)

  pub length_round : (w : ℕ) (xs : List A) → length (round K gs given w xs) ≡ length xs
  unfolding round
  length_round zero xs = refl
  length_round (suc w) xs = length-set (round K gs given w xs) w (want K gs given (round K gs given w xs) w) ∙ length_round w xs

  -- a wire that is not reached yet is as before the round
  pub round_unreached : (w u : ℕ) (xs : List A) (d : A) → w ≤ u → get_or (round K gs given w xs) u d ≡ get_or xs u d
  unfolding round
  round_unreached zero u xs d l = refl
  round_unreached (suc w) u xs d l =
      get_or-set_other (round K gs given w xs) w u (want K gs given (round K gs given w xs) w) d (λ e. omega arith)
      ∙ round_unreached w u xs d (omega arith)

  -- a wire that has been reached gets its value once
  pub round_final : (w u : ℕ) (xs : List A) (d : A) → u < w → u < length xs → get_or (round K gs given w xs) u d ≡ want K gs given (round K gs given u xs) u
  unfolding round
  round_final zero u xs d l m = absurd (omega arith)
  round_final (suc w) u xs d l m =
      let ys = round K gs given w xs in
      ⊎_elim
      (λ e. subst (λ v. get_or (set ys w (want K gs given ys w)) v d ≡ want K gs given (round K gs given v xs) v) (sym e)
      (get_or-set_same ys w (want K gs given ys w) d (omega (arith, length_round w xs))))
      (λ n. get_or-set_other ys w u (want K gs given ys w) d n ∙ round_final w u xs d (omega arith) m)
      (cases_eq u w)

  pub rounds_none : rounds K gs given 0 ≡ replicate (length gs) K.undefined
  unfolding rounds
  rounds_none = refl

  pub rounds_suc : (k : ℕ) → rounds K gs given (suc k) ≡ round K gs given (length gs) (rounds K gs given k)
  unfolding rounds
  rounds_suc k = refl

  pub rounds_more : (k : ℕ) → rounds K gs given (k + 1) ≡ round K gs given (length gs) (rounds K gs given k)
  rounds_more k = rw add-one (rounds_suc k)

  pub length_rounds : (k : ℕ) → length (rounds K gs given k) ≡ length gs
  unfolding rounds
  length_rounds zero = length-replicate (length gs) K.undefined
  length_rounds (suc k) = length_round (length gs) (rounds K gs given k) ∙ length_rounds k

-- A round that changes nothing leaves a solution.
module _ {A : Type 0} (K : Kind A) (gs : List Gate) (given : ℕ → A) (xs : List A) (size : length xs ≡ length gs) (still : round K gs given (length gs) xs ≡ xs) where
  pub unmoved : (w u : ℕ) → u < length gs → reads K (round K gs given w xs) u ≡ reads K xs u
  unmoved w u l =
      ⊎_elim
      (λ m. round_final K gs given w u xs K.undefined m (omega arith)
      ∙ (sym (round_final K gs given (length gs) u xs K.undefined l (omega arith)) ∙ ap (λ ys. reads K ys u) still))
      (λ m. round_unreached K gs given w u xs K.undefined m) (cases_lt u w)

  pub still_solves : Named gs → Solves K gs given (reads K xs)
  still_solves named w l =
      ap (λ ys. reads K ys w) (sym still) ∙ (round_final K gs given (length gs) w xs K.undefined l (omega arith)
      ∙ wanted_same K (length gs) (reads K (round K gs given w xs)) (reads K xs) (unmoved w) (gate_at gs w) (wires_below gs named w l) (given w))

-- Rounds of two kinds with related gates, from related rows.
module _ {A B : Type 0} (K : Kind A) (J : Kind B) (R : A → B → Type 0) (r : Related K J R) (bottom : R K.undefined J.undefined) (gs : List Gate) (named : Named gs) (a : ℕ → A) (b : ℕ → B) (h : (w : ℕ) → w < length gs → R (a w) (b w)) where
  pub round_related : (w : ℕ) → w ≤ length gs → (xs : List A) (ys : List B) → length xs ≡ length gs → length ys ≡ length gs →
      ((u : ℕ) → u < length gs → R (reads K xs u) (reads J ys u)) → (u : ℕ) → u < length gs → R (reads K (round K gs a w xs) u) (reads J (round J gs b w ys) u)
  unfolding round
  round_related zero l xs ys m n s u o = s u o
  round_related (suc w) l xs ys m n s u o =
      let ps = round K gs a w xs in
      let qs = round J gs b w ys in
      let before = round_related w (omega arith) xs ys m n s in
      let here : R (reads K (set ps w (want K gs a ps w)) w) (reads J (set qs w (want J gs b qs w)) w) =
      rw (get_or-set_same ps w (want K gs a ps w) K.undefined (omega (arith, length_round K gs a w xs)), get_or-set_same qs w (want J gs b qs w) J.undefined (omega (arith, length_round J gs b w ys)))
      (wanted_related K J R (reads K ps) (reads J qs) r (gate_at gs w) (related_below K J R (reads K ps) (reads J qs) (length gs) before (gate_at gs w) (wires_below gs named w l)) (a w) (b w) (h w l)) in
      ⊎_elim
      (λ e. subst (λ v. R (reads K (set ps w (want K gs a ps w)) v) (reads J (set qs w (want J gs b qs w)) v)) (sym e) here)
      (λ e. rw (get_or-set_other ps w u (want K gs a ps w) K.undefined e, get_or-set_other qs w u (want J gs b qs w) J.undefined e) (before u o))
      (cases_eq u w)

  pub rounds_related : (k u : ℕ) → u < length gs → R (reads K (rounds K gs a k) u) (reads J (rounds J gs b k) u)
  unfolding rounds
  rounds_related zero u l = rw (get_or-replicate (length gs) u K.undefined K.undefined l, get_or-replicate (length gs) u J.undefined J.undefined l) bottom
  rounds_related (suc k) u l =
      round_related (length gs) (omega arith) (rounds K gs a k) (rounds J gs b k) (length_rounds K gs a k) (length_rounds J gs b k) (rounds_related k) u l
