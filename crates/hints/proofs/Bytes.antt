-- Marks are read and written as bytes.
use Rattle.std.proofs.Common.{◌≡◌, ℕ, zero, suc, ◌-◌, ◌<◌, Bool, true, false, cond, not, eqb, List, length, get_or, set, replicate, ℤ, pos, negsuc, Some, None, Err, Option, sym, refl, ap, ◌∙◌, ⊎_elim, arith, get_or-set_other, get_or-set_same}
use mathlib.Core.Path.{fun_ext}
use native.Mathlib.Numerals.{unary_clauses}
use lib.ListN.{get_or-replicate, length-replicate}
use Rattle.std.proofs.lemmas.List.{get_or_past}
use Rattle.std.proofs.lemmas.Bool.{eqb-true, eqb-false, cases_lt}
use Rattle.std.proofs.lemmas.Bool.Decides.{nat_tests}
use Rattle.std.proofs.lemmas.Iterator.Adapters.{option_map_id}
use Rattle.std.specs.Map.{update}
use Rattle.std.specs.Option.{option_map}
use Rattle.refusals.specs.declared.Refusal.TheVariants.{Literal}
use Rattle.clauses.specs.Clauses.{Clause, variable}
use Rattle.hints.specs.Bytes.{mark_of, marks_of, signed}
use Rattle.hints.specs.Hints.{Marks, unset, flipped, value, assign, names, falsified, by_hints, by_line, checked, all_fit, screened}

-- one byte written
marks_set : (bytes : List ℕ) (x b : ℕ) → x < length bytes → marks_of (set bytes x b) ≡ update eqb (marks_of bytes) x (mark_of b)
marks_set bytes x b h = fun_ext (λ k. at k (eqb x k) refl)
  where
    at : (k : ℕ) (t : Bool) → eqb x k ≡ t → mark_of (get_or (set bytes x b) k 0) ≡ cond t (mark_of b) (mark_of (get_or bytes k 0))
    at k true e = ap mark_of (ap (λ j. get_or (set bytes x b) j 0) (sym (eqb-true x k e)) ∙ get_or-set_same bytes x b 0 h)
    at k false e = ap mark_of (get_or-set_other bytes x k b 0 (λ same. eqb-false x k e (sym same)))

-- A literal made true or false is one byte written.
pub set_assigns : (bytes : List ℕ) (l : ℤ) (to : Bool) (b : ℕ) → names (length bytes) l ≡ true → mark_of b ≡ Some (signed l to)
    → marks_of (set bytes (variable l - 1) b) ≡ assign (marks_of bytes) l to
set_assigns bytes (pos zero) to b n e = absurd (grind (arith, nat_tests))
set_assigns bytes (pos (suc x)) to b n e = simp unary_clauses (marks_set bytes x b (grind (arith, nat_tests)) ∙ ap (update eqb (marks_of bytes) x) e)
set_assigns bytes (negsuc x) to b n e = simp unary_clauses (marks_set bytes x b (grind (arith, nat_tests)) ∙ ap (update eqb (marks_of bytes) x) e)

-- A literal's value is what the mark of its variable says.
pub value_by_mark : (bytes : List ℕ) (l : ℤ) → 0 < variable l → option_map (signed l) (mark_of (get_or bytes (variable l - 1) 0)) ≡ value (marks_of bytes) l
value_by_mark bytes (pos zero) h = absurd (omega arith)
value_by_mark bytes (pos (suc x)) h = simp unary_clauses (option_map_id (mark_of (get_or bytes x 0)))
value_by_mark bytes (negsuc x) h = simp unary_clauses (turned (mark_of (get_or bytes x 0)))
  where
    turned : (o : Option Bool) → option_map not o ≡ flipped o
    turned None = refl
    turned (Some b) = refl

zero_unset : (V k : ℕ) → ◌≡◌ {A = ℕ} (get_or (replicate V 0) k 0) 0
zero_unset V k = ⊎_elim (λ h. get_or-replicate V k 0 0 h) (λ h. get_or_past (replicate V 0) k 0 (simp length-replicate h)) (cases_lt k V)

-- Where all bytes are 0, all variables are unset.
pub marks_zero : (V : ℕ) → marks_of (replicate V 0) ≡ unset
marks_zero V = fun_ext (λ k. ap mark_of (zero_unset V k))

-- A line over so many fresh marks, with its literals made false.
module _ (V : ℕ) (bytes : List ℕ) (clauses : ℕ → Option Clause) (ls : Clause) (hs : List ℕ) (fresh : bytes ≡ replicate V 0) (fit : all_fit V ls ≡ true) where
  pub screened_hints : (m : Marks) → falsified (marks_of bytes) ls ≡ Some m → screened V clauses ls hs ≡ by_hints V clauses m hs
  screened_hints m e =
      ap (λ b. cond b (checked V clauses ls hs) (Err Literal)) fit
      ∙ ap (λ x. by_line x (λ k. by_hints V clauses k hs)) (ap (λ k. falsified k ls) (sym (ap marks_of fresh ∙ marks_zero V)) ∙ e)
