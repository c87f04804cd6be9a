-- The tree of assignments. A node is the list of the values that it gives to the variables 1 to its length, the last variable's
-- first; its line says "not these values".
use Rattle.std.proofs.Common.{◌≡◌, ℕ, zero, suc, ◌<◌, ◌≤◌, Bool, true, false, not, eqb, ◌⊎◌, List, [], ◌∷◌, length, ℤ, pos, negsuc, Some, None, Ok, Option, unwrap_or, refl, ap, ◌∙◌, inl, inr, le_refl, arith}
use Rattle.std.specs.List.{AllByRecursion as AllOf, slice_get}
use Rattle.std.specs.Map.{update}
use Rattle.std.proofs.lemmas.Map.{update_here, update_apart}
use Rattle.std.proofs.lemmas.Bool.{or_parts, cases_eq, cases_Bool}
use Rattle.clauses.specs.Clauses.{Clause, Valuation, plus, minus, true_literal, some_true, Satisfies, Over, numbered}
use Rattle.hints.specs.declared.Reading.TheVariants.{Conflict, Forced}
use Rattle.hints.specs.Hints.{Verdict, Marks, unset, flipped, value, falsified, reading, by_reading, by_hint, by_hints, by_line, Follows}
use Rattle.refutations.specs.Claims.{Unsatisfiable}
use Rattle.refutations.specs.Refuting.{Within}
use Rattle.refutations.specs.Words.{AllFalse}
use Rattle.refutations.proofs.Clauses.{joined_unset, reading_false}

-- the literal of a variable that is true where the variable is b
abbrev pub literal : ℕ → Bool → ℤ
literal x true = plus x
literal x false = minus x

abbrev pub block : List Bool → Clause
block [] = []
block (b ∷ bs) = literal (length bs) (not b) ∷ block bs

literal_within : (V x : ℕ) (b : Bool) → x < V → Within V (literal x b)
literal_within V x true h = (omega arith, h)
literal_within V x false h = (omega arith, h)

pub block_within : (V : ℕ) (bs : List Bool) → length bs ≤ V → AllOf (Within V) (block bs)
block_within V [] h = tt
block_within V (b ∷ bs) h = (literal_within V (length bs) (not b) h, block_within V bs (omega arith))

-- ---- the marks of a node

abbrev Marked : Marks → List Bool → Type 0
Marked m [] = Unit {0}
Marked m (b ∷ bs) = (m (length bs) ≡ Some b) × Marked m bs

-- the node's line makes the node's marks
falsified_literal : (m : Marks) (x : ℕ) (b : Bool) (ls : Clause) → m x ≡ None
    → falsified m (literal x (not b) ∷ ls) ≡ falsified (update eqb m x (Some b)) ls
falsified_literal m x true ls e = rw e
falsified_literal m x false ls e = rw e

falsified_block : (bs : List Bool) (m : Marks) → ((x : ℕ) → x < length bs → m x ≡ None)
    → (m' : Marks) × (falsified m (block bs) ≡ Some m') × Marked m' bs × ((x : ℕ) → length bs ≤ x → m' x ≡ m x)
falsified_block [] m fresh = (m, refl, tt, λ x h. refl)
falsified_block (b ∷ bs) m fresh =
    let k = length bs in
    let m₁ : Marks = update eqb m k (Some b) in
    let rest = falsified_block bs m₁ (λ x h. update_apart m k (Some b) x (λ e. omega arith) ∙ fresh x (omega arith)) in (
      rest.0,
      falsified_literal m k b (block bs) (fresh k (le_refl (suc k))) ∙ rest.1,
      (rest.3 k (le_refl k) ∙ update_here m k (Some b), rest.2),
      λ x h. rest.3 x (omega arith) ∙ update_apart m k (Some b) x (λ e. omega arith),
    )

-- the line's literals are all false there, also once a later variable is marked
literal_false : (m : Marks) (x : ℕ) (b : Bool) → m x ≡ Some b → value m (literal x (not b)) ≡ Some false
literal_false m x true e = ap flipped e
literal_false m x false e = e

block_false : (V : ℕ) (m : Marks) (bs : List Bool) → length bs ≤ V → Marked m bs → AllFalse V m (block bs)
block_false V m [] h marked = tt
block_false V m (b ∷ bs) h marked =
    ((literal_within V (length bs) (not b) h, literal_false m (length bs) b marked.0), block_false V m bs (omega arith) marked.1)

marked_later : (m : Marks) (k : ℕ) (w : Option Bool) (bs : List Bool) → length bs ≤ k → Marked m bs → Marked (update eqb m k w) bs
marked_later m k w [] h marked = tt
marked_later m k w (b ∷ bs) h marked =
    (update_apart m k w (length bs) (λ e. omega arith) ∙ marked.0, marked_later m k w bs (omega arith) marked.1)

-- ---- a node's line follows

module _ (V : ℕ) (clauses : ℕ → Option Clause) where
  conflict_hint : (m : Marks) (h : ℕ) (hs : List ℕ) (c : Clause) → clauses h ≡ Some c → AllFalse V m c → by_hints V clauses m (h ∷ hs) ≡ Ok tt
  conflict_hint m h hs c e all =
      let next : Marks → Verdict = λ m'. by_hints V clauses m' hs in
      ap (λ o. by_hint V o m next) e ∙ ap (λ r. by_reading r m next) (reading_false V m c Conflict all)

  follows_by : (ls : Clause) (hints : List ℕ) (m : Marks) → falsified unset ls ≡ Some m → by_hints V clauses m hints ≡ Ok tt
      → Follows V clauses ls hints
  follows_by ls hints m e f = ap (λ o. by_line o (λ m'. by_hints V clauses m' hints)) e ∙ f

  -- by the lines of the node's two children
  pub node_follows : (bs : List Bool) (a b : ℕ) → length bs < V → clauses a ≡ Some (block (true ∷ bs)) → clauses b ≡ Some (block (false ∷ bs))
      → Follows V clauses (block bs) (a ∷ b ∷ [])
  node_follows bs a b below at_a at_b =
      let k = length bs in
      let o = falsified_block bs unset (λ x h. refl) in
      let m = o.0 in
      let m₁ : Marks = update eqb m k (Some false) in
      let next : Marks → Verdict = λ m'. by_hints V clauses m' (b ∷ []) in
      let first : reading V m Conflict (block (true ∷ bs)) ≡ Forced (minus k) =
      ap (λ r. reading V m r (block bs)) (joined_unset V m Conflict (minus k) (literal_within V k false below) (ap flipped (o.3 k (le_refl k))))
      ∙ reading_false V m (block bs) (Forced (minus k)) (block_false V m bs (omega arith) o.2)
      in
      let marked₁ : Marked m₁ (false ∷ bs) = (update_here m k (Some false), marked_later m k (Some false) bs (le_refl k) o.2) in
      follows_by (block bs) (a ∷ b ∷ []) m o.1
      (ap (λ c. by_hint V c m next) at_a ∙ ap (λ r. by_reading r m next) first
      ∙ conflict_hint m₁ b [] (block (false ∷ bs)) at_b (block_false V m₁ (false ∷ bs) below marked₁))

-- ---- a leaf's line follows by a clause that its valuation makes false

abbrev taken : Marks → Valuation
taken m x = unwrap_or (m x) false

marked_at : (m : Marks) (bs : List Bool) → Marked m bs → (x : ℕ) → x < length bs → m x ≡ Some (taken m x)
marked_at m [] marked x h = absurd (omega arith)
marked_at m (b ∷ bs) marked x h = go (cases_eq x (length bs)) (marked_at m bs marked.1 x)
  where
    go : (x ≡ length bs) ⊎ (x ≡ length bs → ⊥) → (x < length bs → m x ≡ Some (taken m x)) → m x ≡ Some (taken m x)
    go (inl e) later = let here : m x ≡ Some b = ap m e ∙ marked.0 in rw here
    go (inr e) later = later (omega arith)

value_taken : (m : Marks) (bs : List Bool) → Marked m bs → (l : ℤ) → Within (length bs) l → value m l ≡ Some (true_literal (taken m) l)
value_taken m bs marked (pos zero) w = absurd (omega arith)
value_taken m bs marked (pos (suc x)) w = marked_at m bs marked x (omega arith)
value_taken m bs marked (negsuc x) w = ap flipped (marked_at m bs marked x (omega arith))

failed_false : (m : Marks) (bs : List Bool) → Marked m bs → (c : Clause) → AllOf (Within (length bs)) c → some_true (taken m) c ≡ false
    → AllFalse (length bs) m c
failed_false m bs marked [] w fails = tt
failed_false m bs marked (l ∷ ls) w fails =
    let parts = or_parts (true_literal (taken m) l) (some_true (taken m) ls) fails in
    ((w.0, value_taken m bs marked l w.0 ∙ ap (λ b. Some b) parts.0), failed_false m bs marked ls w.1 parts.1)

-- a clause that v makes false, with its place
abbrev Failed : Valuation → ℕ → List Clause → Type 0
Failed v V F = (i : ℕ) × (c : Clause) × (i < length F) × (slice_get F i ≡ Some c) × AllOf (Within V) c × (some_true v c ≡ false)

find_failed : (v : Valuation) (V : ℕ) (F : List Clause) → Over V F → Satisfies v F ⊎ Failed v V F
find_failed v V [] over = inl tt
find_failed v V (c ∷ F) over = go (cases_Bool (some_true v c)) (find_failed v V F over.1)
  where
    go : (some_true v c ≡ true) ⊎ (some_true v c ≡ false) → Satisfies v F ⊎ Failed v V F → Satisfies v (c ∷ F) ⊎ Failed v V (c ∷ F)
    go (inr e) rest = inr (0, c, omega arith, refl, over.0, e)
    go (inl e) (inl rest) = inl (e, rest)
    go (inl e) (inr r) = inr (suc r.0, r.1, omega arith, r.3, r.4, r.5)

pub leaf_follows : (F : List Clause) (bs : List Bool) → Over (length bs) F → Unsatisfiable F
    → (clauses : ℕ → Option Clause) → ((j : ℕ) → j ≤ length F → clauses j ≡ numbered F j)
    → (hints : List ℕ) × Follows (length bs) clauses (block bs) hints
leaf_follows F bs over unsat clauses keeps = go (find_failed (taken m) V F over)
  where
    V : ℕ
    V = length bs

    o : (m : Marks) × (falsified unset (block bs) ≡ Some m) × Marked m bs × ((x : ℕ) → length bs ≤ x → m x ≡ unset x)
    o = falsified_block bs unset (λ x h. refl)

    m : Marks
    m = o.0

    go : Satisfies (taken m) F ⊎ Failed (taken m) V F → (hints : List ℕ) × Follows V clauses (block bs) hints
    go (inl all) = absurd (unsat (taken m) all)
    go (inr (i, c, below, at, within, fails)) = (
      suc i ∷ [],
      follows_by V clauses (block bs) (suc i ∷ []) m o.1
          (conflict_hint V clauses m (suc i) [] c (keeps (suc i) below ∙ at) (failed_false m bs o.2 c within fails)),
    )
