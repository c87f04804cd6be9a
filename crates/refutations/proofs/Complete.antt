-- An unsatisfiable formula has a refuting list: the lines of the tree of assignments, children before parents.
use Rattle.std.proofs.Common.{◌≡◌, ℕ, zero, suc, ◌+◌, ◌<◌, ◌≤◌, Bool, true, false, eqb, List, [], ◌∷◌, length, Some, Option, refl, ◌∙◌, subst, le_refl, arith}
use Rattle.std.specs.Map.{update}
use Rattle.std.proofs.lemmas.Map.{update_here, update_apart}
use Rattle.clauses.specs.Clauses.{Clause, Over, numbered}
use Rattle.hints.specs.Hints.{Follows}
use Rattle.refutations.specs.Claims.{Unsatisfiable}
use Rattle.refutations.specs.Refuting.{Item, line, Refutes, Refuting}
use Rattle.refutations.proofs.Tree.{block, block_within, node_follows, leaf_follows}

-- how far a list has come
record State (F : List Clause) : Type 0 where
  clauses : ℕ → Option Clause
  last : ℕ
  above : length F ≤ last
  keeps : (j : ℕ) → j ≤ length F → clauses j ≡ numbered F j

-- t comes after s: numbers up to the last of s are kept, and what refutes from t can be led to from s
record Later (V : ℕ) (F : List Clause) (s t : State F) : Type 0 where
  up : s.last ≤ t.last
  kept : (k : ℕ) → k ≤ s.last → t.clauses k ≡ s.clauses k
  back : (items : List Item) → Refutes V (length F) t.clauses t.last items → (more : List Item) × Refutes V (length F) s.clauses s.last more

module _ (V : ℕ) (F : List Clause) where
  later_refl : (s : State F) → Later V F s s
  later_refl s = record { up = le_refl s.last; kept = λ k h. refl; back = λ items r. (items, r) }

  later_trans : (s t u : State F) → Later V F s t → Later V F t u → Later V F s u
  later_trans s t u p q = record {
    up = omega (arith, p.up, q.up);
    kept = λ k h. q.kept k (omega (arith, p.up)) ∙ p.kept k h;
    back = λ items r. let mid = q.back items r in p.back mid.0 mid.1;
  }

  -- one more line, under the next number
  added : (s : State F) (b : Bool) (bs : List Bool) → State F
  added s b bs = record {
    clauses = update eqb s.clauses (suc s.last) (Some (block (b ∷ bs)));
    last = suc s.last;
    above = omega (arith, s.above);
    keeps = λ j h. update_apart s.clauses (suc s.last) (Some (block (b ∷ bs))) j (λ e. omega (arith, s.above)) ∙ s.keeps j h;
  }

  added_here : (s : State F) (b : Bool) (bs : List Bool) → (added s b bs).clauses (added s b bs).last ≡ Some (block (b ∷ bs))
  unfolding added
  added_here s b bs = update_here s.clauses (suc s.last) (Some (block (b ∷ bs)))

  added_later : (s : State F) (b : Bool) (bs : List Bool) → length bs < V → (hints : List ℕ) → Follows V s.clauses (block (b ∷ bs)) hints
      → Later V F s (added s b bs)
  unfolding added
  added_later s b bs fits hints e = record {
    up = omega arith;
    kept = λ k h. update_apart s.clauses (suc s.last) (Some (block (b ∷ bs))) k (λ q. omega arith);
    back = λ items r. (line (suc s.last) (block (b ∷ bs)) hints ∷ items, ((le_refl (suc s.last), block_within V (b ∷ bs) fits, e), r));
  }

  -- the parent's line follows by the numbers of its children's
  parent : (s t : State F) (bs : List Bool) → length bs < V → Later V F s t
      → s.clauses s.last ≡ Some (block (true ∷ bs)) → t.clauses t.last ≡ Some (block (false ∷ bs))
      → Follows V t.clauses (block bs) (s.last ∷ t.last ∷ [])
  parent s t bs below p at-s at-t =
      node_follows V t.clauses bs s.last t.last below (p.kept s.last (le_refl s.last) ∙ at-s) at-t

  module _ (over : Over V F) (unsat : Unsatisfiable F) where
    -- the subtree of height k below the node, and what its own line follows by
    derived : (k : ℕ) (bs : List Bool) → k + length bs ≡ V → (s : State F)
        → (t : State F) × Later V F s t × (hints : List ℕ) × Follows V t.clauses (block bs) hints
    derived zero bs e s =
        let here : length bs ≡ V = omega arith in
        let leaf = subst (λ n. Over n F → (hints : List ℕ) × Follows n s.clauses (block bs) hints) here
        (λ o. leaf_follows F bs o unsat s.clauses s.keeps) over in
        (s, later_refl s, leaf.0, leaf.1)
    derived (suc k) bs e s =
        let below : length bs < V = omega arith in
        let p = derived k (true ∷ bs) (omega arith) s in
        let s₁ = added p.0 true bs in
        let to-s₁ = added_later p.0 true bs below p.2 p.3 in
        let q = derived k (false ∷ bs) (omega arith) s₁ in
        let s₂ = added q.0 false bs in
        let to-s₂ = later_trans s₁ q.0 s₂ q.1 (added_later q.0 false bs below q.2 q.3) in (
          s₂,
          later_trans s s₁ s₂ (later_trans s p.0 s₁ p.1 to-s₁) to-s₂,
          s₁.last ∷ s₂.last ∷ [],
          parent s₁ s₂ bs below to-s₂ (added_here p.0 true bs) (added_here q.0 false bs),
        )

    pub refuted_listed : (items : List Item) × Refuting V F items
    refuted_listed =
        let start : State F = record { clauses = numbered F; last = length F; above = le_refl (length F); keeps = λ j h. refl } in
        let d = derived V [] (omega arith) start in
        d.1.back (line (suc d.0.last) [] d.2 ∷ []) (le_refl (suc d.0.last), tt, d.3)
