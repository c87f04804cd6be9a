-- How many clauses a wire has, and which they are.
use Rattle.std.proofs.Common.{◌≡◌, ℕ, zero, suc, ◌+◌, ◌-◌, ◌*◌, ◌<◌, ◌≤◌, Bool, true, false, List, ◌∷◌, ◌++◌, length, Option, sym, refl, ap, ◌∙◌, arith, length-append}
use Rattle.std.specs.List.{slice_get}
use Rattle.values.specs.Sides.{Rail, rail0, rail1, Right, fixed, one, either, both, two_boths}
use Rattle.clauses.specs.Clauses.{Clause}
use Rattle.clauses.proofs.Blocks.{nth_left, nth_right}
use Rattle.formulas.specs.Drives.{Drive, input, register, settled}
use Rattle.formulas.specs.Formulas.{equation, driven, held, rail_var, apart}
use Rattle.wireclauses.specs.Sizes.{right_size, plain_size, register_size, one_if}

pub right_length : (x : Rail ℕ → ℕ) (a : ℕ) (r : Right ℕ) → length (equation x a r) ≡ right_size r
right_length x a (fixed t) = refl
right_length x a (one b) = refl
right_length x a (either b c) = refl
right_length x a (both b c) = refl
right_length x a (two_boths b c e f) = refl

pub nth_suc : {A : Type 0} (x : A) (xs : List A) (j : ℕ) → 0 < j → slice_get (x ∷ xs) j ≡ slice_get xs (j - 1)
nth_suc x xs zero h = absurd (omega arith)
nth_suc x xs (suc j) h = ap (slice_get xs) (omega arith)

held_length : (starts : Bool) (n i w y : ℕ) → 2 + length (held starts n i w y) ≡ register_size starts i
held_length true n zero w y = refl
held_length false n zero w y = refl
held_length starts n (suc i) w y = refl

pub wire_length : (starts : Bool) (n i w : ℕ) (g : Drive) → length (apart n i w ∷ driven starts n i w g) ≡ plain_size g + register_size starts i * one_if g
wire_length starts n i w input = omega arith
wire_length starts n i w (register y) = omega (arith, held_length starts n i w y)
wire_length starts n i w (settled s) =
    let x = rail_var n i in
    let a = equation x (x (rail0 w)) s.side0 in
    let b = equation x (x (rail1 w)) s.side1 in
    omega (arith, length-append a b, right_length x (x (rail0 w)) s.side0, right_length x (x (rail1 w)) s.side1)

-- the code's two ways
module _ (n i w : ℕ) (r t : Right ℕ) (a size j : ℕ) (o : Option Clause) where
  abbrev both_rails : List Clause
  both_rails = equation (rail_var n i) (rail_var n i (rail0 w)) r ++ equation (rail_var n i) (rail_var n i (rail1 w)) t

  pub turn_rail0 : a ≡ rail_var n i (rail0 w) → size ≡ right_size r → j < size → o ≡ slice_get (equation (rail_var n i) a r) j → o ≡ slice_get both_rails j
  turn_rail0 x z h said =
      let long = right_length (rail_var n i) (rail_var n i (rail0 w)) r in
      said ∙ (ap (λ y. slice_get (equation (rail_var n i) y r) j) x ∙ sym (nth_left _ _ j (omega arith)))

  pub turn_rail1 : a ≡ rail_var n i (rail0 w) → size ≡ right_size r → size ≤ j → o ≡ slice_get (equation (rail_var n i) (a + 1) t) (j - size) → o ≡ slice_get both_rails j
  turn_rail1 x z h said =
      let long = right_length (rail_var n i) (rail_var n i (rail0 w)) r in
      said ∙ (ap (λ y. slice_get (equation (rail_var n i) (y + 1) t) (j - size)) x
      ∙ (ap (λ y. slice_get (equation (rail_var n i) (rail_var n i (rail1 w)) t) (j - y)) (z ∙ sym long)
      ∙ sym (nth_right (equation (rail_var n i) (rail_var n i (rail0 w)) r) _ j (omega arith))))
