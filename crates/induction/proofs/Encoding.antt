-- The clauses of a frame say that every wire obeys.
use Rattle.std.proofs.Common.{◌≡◌, ℕ, ◌<◌, Bool, true, false, not, ◌||◌, ◌≢◌, List, ◌∷◌, length, sym, ap, ◌∙◌, ap₂, rules}
use Rattle.std.proofs.ByRecursion.{All-append}
use Rattle.values.specs.Sides.{Rail, rail0, rail1, Right, holds, Sides}
use Rattle.values.specs.Single.{is0, is1, from_rails, single}
use Rattle.values.specs.declared.single.Value.{Value}
use Rattle.values.specs.declared.single.Value.TheVariants.{Undefined}
use Rattle.gates.specs.declared.gate.Gate.{Gate}
use Rattle.gates.proofs.Names.{wires_below}
use Rattle.clauses.specs.Clauses.{Valuation, Satisfies}
use Rattle.clauses.proofs.Across.{all_across}
use Rattle.formulas.specs.Drives.{Drive, input, register, settled, driver}
use Rattle.formulas.specs.Formulas.{rail_var, equation, apart, defined, held, driven}
use Rattle.formulas.proofs.Uses.{wire, Uses, DrivesBelow, drives_below}
use Rattle.solutions.specs.Solutions.{gate_at, wanted}
use Rattle.solutions.specs.Claims.{Named}
use Rattle.induction.specs.Readings.{Shows, ShowsBefore}
use Rattle.induction.specs.Claims.{Held, Obeyed, FrameEncodes, FrameShown}
use Rattle.induction.proofs.Parts.{all_split, across_all, True}
use Rattle.induction.proofs.Equations.{encodes}
use Rattle.induction.proofs.Values.{from_own_rails, is0_from_rails, is1_from_rails, rails, holds_same, Sided, sided, not_both}

module _ (n : ℕ) (v : Valuation) (i : ℕ) (f : ℕ → Value) (shows : Shows v n i f) where
  shows_rail : (r : Rail ℕ) → wire r < n → v (rail_var n i r) ≡ rails f r
  shows_rail = search rules

  equation_says : (a : ℕ) (r : Right ℕ) → Uses n r → Satisfies v (equation (rail_var n i) a r) → v a ≡ holds (rails f) r
  equation_says a r u h = (encodes v (rail_var n i) a r).0 h ∙ holds_same n (λ b. v (rail_var n i b)) (rails f) shows_rail r u

  equation_from : (a : ℕ) (r : Right ℕ) → Uses n r → v a ≡ holds (rails f) r → Satisfies v (equation (rail_var n i) a r)
  equation_from a r u h = (encodes v (rail_var n i) a r).1 (h ∙ sym (holds_same n (λ b. v (rail_var n i b)) (rails f) shows_rail r u))

  module _ (w : ℕ) (l : w < n) where
    is_apart : True v (apart n i w)
    is_apart = search rules

    pub is_defined : True v (defined n i w) → f w ≢ Undefined
    is_defined = search rules

    pub defines : f w ≢ Undefined → True v (defined n i w)
    defines = search rules

    module _ (g : Gate) (s : Sides ℕ) (side : Sided g (settled s)) (u : DrivesBelow n (settled s)) where
      sides_say : Satisfies v (driven true n i w (settled s)) → f w ≡ wanted single g Undefined f
      sides_say h =
          let k = all_split (True v) (equation (rail_var n i) (rail_var n i (rail0 w)) s.side0) (equation (rail_var n i) (rail_var n i (rail1 w)) s.side1) h in
          from_own_rails (f w)
          ∙ ap₂ from_rails
          (sym (shows w l).0 ∙ equation_says (rail_var n i (rail0 w)) s.side0 u.0 k.0)
          (sym (shows w l).1 ∙ equation_says (rail_var n i (rail1 w)) s.side1 u.1 k.1)
          ∙ sym (side f).0

      sides_from : f w ≡ wanted single g Undefined f → Satisfies v (driven true n i w (settled s))
      sides_from e =
          let a = holds (rails f) s.side0 in
          let b = holds (rails f) s.side1 in
          All-append (True v) (equation (rail_var n i) (rail_var n i (rail0 w)) s.side0) (equation (rail_var n i) (rail_var n i (rail1 w)) s.side1)
          (equation_from (rail_var n i (rail0 w)) s.side0 u.0 ((shows w l).0 ∙ ap is0 (e ∙ (side f).0) ∙ is0_from_rails a b))
          (equation_from (rail_var n i (rail1 w)) s.side1 u.1 ((shows w l).1 ∙ ap is1 (e ∙ (side f).0) ∙ is1_from_rails a b (not_both a b (side f).1)))

module _ (n : ℕ) (v : Valuation) (before f : ℕ → Value) (w y : ℕ) (l : w < n) (m : y < n) where
  held_says : (starts : Bool) (i : ℕ) → ShowsBefore v n i before → Shows v n i f → Satisfies v (held starts n i w y) → f w ≢ Undefined → Held i starts (f w) (before y)
  held_says = search rules

  held_from : (starts : Bool) (i : ℕ) → ShowsBefore v n i before → Shows v n i f → Held i starts (f w) (before y) → Satisfies v (held starts n i w y)
  held_from = search rules

held_defined : (starts : Bool) (i : ℕ) (x b : Value) → Held i starts x b → x ≢ Undefined
held_defined = search rules

module _ (n : ℕ) (v : Valuation) (starts : Bool) (i : ℕ) (before f : ℕ → Value) (earlier : ShowsBefore v n i before) (shows : Shows v n i f) (w : ℕ) (l : w < n) (g : Gate) where
  wire_says : (k : Drive) → DrivesBelow n k → Sided g k → Satisfies v (apart n i w ∷ driven starts n i w k) → Obeyed starts i before f w g k
  wire_says input u a h = is_defined n v i f shows w l h.1.0
  wire_says (register y) u a h = held_says n v before f w y l u starts i earlier shows h.1.1 (is_defined n v i f shows w l h.1.0)
  wire_says (settled s) u a h = sides_say n v i f shows w l g s a u h.1

  wire_from : (k : Drive) → DrivesBelow n k → Sided g k → Obeyed starts i before f w g k → Satisfies v (apart n i w ∷ driven starts n i w k)
  wire_from input u a d = (is_apart n v i f shows w l, (defines n v i f shows w l d, tt))
  wire_from (register y) u a e = (
    is_apart n v i f shows w l,
    (defines n v i f shows w l (held_defined starts i (f w) (before y) e), held_from n v before f w y l u starts i earlier shows e),
  )
  wire_from (settled s) u a e = (is_apart n v i f shows w l, sides_from n v i f shows w l g s a u e)

-- what drives a wire names wires of the board alone
pub below : (gs : List Gate) → Named gs → (w : ℕ) → w < length gs → DrivesBelow (length gs) (driver gs w)
below gs named w l = drives_below (length gs) (gate_at gs w) (wires_below gs named w l)

pub frame_encodes : FrameEncodes
frame_encodes gs named starts v i before f earlier shows =
    let n = length gs in (
      λ h w l. wire_says n v starts i before f earlier shows w l (gate_at gs w) (driver gs w) (below gs named w l) (sided (gate_at gs w))
          (across_all (True v) n (λ w. apart n i w ∷ driven starts n i w (driver gs w)) h w l),
      λ o. all_across (True v) n (λ w. apart n i w ∷ driven starts n i w (driver gs w))
          (λ w l. wire_from n v starts i before f earlier shows w l (gate_at gs w) (driver gs w) (below gs named w l) (sided (gate_at gs w)) (o w l)),
    )

rails_apart : (a b : Bool) → (not a || (not b || false)) ≡ true → a ≡ true → b ≡ true → ⊥
rails_apart = search rules

pub frame_shown : FrameShown
frame_shown gs starts v i h w l =
    let n = length gs in
    let a = v (rail_var n i (rail0 w)) in
    let b = v (rail_var n i (rail1 w)) in
    let k = across_all (True v) n (λ w. apart n i w ∷ driven starts n i w (driver gs w)) h w l in
    (sym (is0_from_rails a b), sym (is1_from_rails a b (rails_apart a b k.0)))
