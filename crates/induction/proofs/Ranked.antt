-- What is listed for the wires that pass a test stands at their ranks.
use Rattle.std.proofs.Common.{◌≡◌, ℕ, zero, suc, ◌+◌, ◌<◌, ◌≤◌, Bool, true, cond, List, [], ◌∷◌, ◌++◌, length, get_or, sym, refl, ◌∙◌, subst, ⊎_elim, arith, length-append, rules}
use Rattle.std.proofs.lemmas.List.{get_or_append_left, get_or_at}
use Rattle.std.proofs.lemmas.Bool.{cases_lt}
use Rattle.gates.specs.declared.gate.Gate.{Gate}
use Rattle.gates.specs.Gates.{rank}
use Rattle.gates.proofs.Counting.{count_turn, rank_up}
use Rattle.clauses.specs.Clauses.{across}
use Rattle.solutions.specs.Solutions.{gate_at}

module _ {A : Type 0} (test : Gate → Bool) (gs : List Gate) (g : ℕ → A) where
  abbrev pub listed : ℕ → List A
  listed w = cond (test (gate_at gs w)) (g w ∷ []) []

  length_one : (b : Bool) (x : A) → length (cond b (x ∷ []) []) ≡ cond b 1 0
  length_one = search rules

  pub length_listed : (n : ℕ) → n ≤ length gs → length (across n listed) ≡ rank test gs n
  length_listed zero l = refl
  length_listed (suc n) l =
      let turn : rank test gs (suc n) ≡ rank test gs n + cond (test (gate_at gs n)) 1 0 =
      subst (λ k. rank test gs k ≡ rank test gs n + cond (test (gate_at gs n)) 1 0) (let e : n + 1 ≡ suc n = omega arith in e) (count_turn test gs n (omega arith)) in
      omega (arith, turn, length-append (across n listed) (listed n), length_listed n (omega arith), length_one (test (gate_at gs n)) (g n))

  pub listed_at : (n w : ℕ) (d : A) → n ≤ length gs → w < n → test (gate_at gs w) ≡ true → get_or (across n listed) (rank test gs w) d ≡ g w
  listed_at zero w d s l t = absurd (omega arith)
  listed_at (suc n) w d s l t =
      ⊎_elim
      (λ m. get_or_append_left (across n listed) (listed n) d (rank test gs w) (subst (λ k. rank test gs w < k) (sym (length_listed n (omega arith))) (rank_up test gs n w m (omega arith) t))
      ∙ listed_at n w d (omega arith) m t)
      (λ m. let e : n ≡ w = omega arith in subst (λ k. get_or (across n listed ++ listed n) (rank test gs k) d ≡ g k) e (last (subst (λ k. test (gate_at gs k) ≡ true) (sym e) t)))
      (cases_lt w n)
    where
      last : test (gate_at gs n) ≡ true → get_or (across n listed ++ listed n) (rank test gs n) d ≡ g n
      last h =
          subst (λ b. get_or (across n listed ++ cond b (g n ∷ []) []) (rank test gs n) d ≡ g n) (sym h)
          (get_or_at (across n listed) (g n) [] d (rank test gs n) (length_listed n (omega arith)))

-- a list of one element for each index
pub length_across : {A : Type 0} (n : ℕ) (g : ℕ → A) → length (across n (λ i. g i ∷ [])) ≡ n
length_across zero g = refl
length_across (suc n) g = length-append (across n (λ i. g i ∷ [])) (g n ∷ []) ∙ (let h = length_across n g in omega arith)

pub at_across : {A : Type 0} (n : ℕ) (g : ℕ → A) (d : A) (i : ℕ) → i < n → get_or (across n (λ i. g i ∷ [])) i d ≡ g i
at_across zero g d i l = absurd (omega arith)
at_across (suc n) g d i l =
    ⊎_elim
    (λ m. get_or_append_left (across n (λ i. g i ∷ [])) (g n ∷ []) d i (subst (λ k. i < k) (sym (length_across n g)) m) ∙ at_across n g d i m)
    (λ m. let e : n ≡ i = omega arith in subst (λ k. get_or (across n (λ i. g i ∷ []) ++ g n ∷ []) k d ≡ g k) e (get_or_at (across n (λ i. g i ∷ [])) (g n) [] d n (length_across n g)))
    (cases_lt i n)
