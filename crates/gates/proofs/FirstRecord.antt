-- The first record of a list of bytes.
use Rattle.std.proofs.Common.{◌≡◌, ℕ, zero, suc, ◌+◌, ◌<◌, Bool, true, false, cond, ◌&&◌, ltb, List, [], ◌∷◌, ◌++◌, length, get_or, drop, Some, None, Option, sym, refl, ap, ◌∙◌, ⊎_elim, drop-cons, arith}
use Rattle.std.proofs.lemmas.List.{append-nil}
use Rattle.std.proofs.lemmas.Bool.{cases_Bool, ltb-true, and_parts}
use Rattle.std.proofs.lemmas.Bool.Decides.{nat_tests}
use Rattle.gates.specs.declared.gate.Gate.{Gate}
use Rattle.gates.specs.declared.gate.Gate.TheVariants.{Input, Zero, One, Copy, Not, And, Or, Implies, Xor, Register}
use Rattle.gates.specs.Records.{record_of, arity, gate_of, first_record, alone, gate_in, Recorded}

-- The first record of bytes that begin with a record is that record,
pub first_of : (g : Gate) (t : List ℕ) → first_record (record_of g ++ t) ≡ Some (g, t)
first_of Input t = grind (arith, nat_tests)
first_of Zero t = grind (arith, nat_tests)
first_of One t = grind (arith, nat_tests)
first_of (Copy y) t = grind (arith, nat_tests)
first_of (Not y) t = grind (arith, nat_tests)
first_of (And y z) t = grind (arith, nat_tests)
first_of (Or y z) t = grind (arith, nat_tests)
first_of (Implies y z) t = grind (arith, nat_tests)
first_of (Xor y z) t = grind (arith, nat_tests)
first_of (Register y) t = grind (arith, nat_tests)

two_more : (t : List ℕ) → 2 < suc (length t) → t ≡ get_or t 0 0 ∷ get_or t 1 0 ∷ drop 2 t
two_more t l = drop-cons t 0 0 (omega arith) ∙ ap (λ xs. get_or t 0 0 ∷ xs) (drop-cons t 1 0 (omega arith))

-- and the bytes begin with it.
record_at : (k : ℕ) (t : List ℕ) → ltb k 10 ≡ true → arity k < suc (length t) → k ∷ t ≡ record_of (gate_of k (get_or (k ∷ t) 1 0) (get_or (k ∷ t) 2 0)) ++ drop (1 + arity k) (k ∷ t)
record_at zero t h l = refl
record_at (suc zero) t h l = refl
record_at (suc (suc zero)) t h l = refl
record_at (suc (suc (suc zero))) t h l = ap (λ xs. 3 ∷ xs) (drop-cons t 0 0 (omega arith))
record_at (suc (suc (suc (suc zero)))) t h l = ap (λ xs. 4 ∷ xs) (drop-cons t 0 0 (omega arith))
record_at (suc (suc (suc (suc (suc zero))))) t h l = ap (λ xs. 5 ∷ xs) (two_more t l)
record_at (suc (suc (suc (suc (suc (suc zero)))))) t h l = ap (λ xs. 6 ∷ xs) (two_more t l)
record_at (suc (suc (suc (suc (suc (suc (suc zero))))))) t h l = ap (λ xs. 7 ∷ xs) (two_more t l)
record_at (suc (suc (suc (suc (suc (suc (suc (suc zero)))))))) t h l = ap (λ xs. 8 ∷ xs) (two_more t l)
record_at (suc (suc (suc (suc (suc (suc (suc (suc (suc zero))))))))) t h l = ap (λ xs. 9 ∷ xs) (drop-cons t 0 0 (omega arith))
record_at (suc (suc (suc (suc (suc (suc (suc (suc (suc (suc k)))))))))) t h l = absurd (omega (arith, ltb-true (suc (suc (suc (suc (suc (suc (suc (suc (suc (suc k)))))))))) 10 h))

pub first_some : (bs : List ℕ) (g : Gate) (t : List ℕ) → first_record bs ≡ Some (g, t) → bs ≡ record_of g ++ t
first_some [] g t e = grind arith
first_some (k ∷ u) g t e = ⊎_elim yes_case no_case (cases_Bool test)
  where
    test : Bool
    test = ltb k 10 && ltb (arity k) (length (k ∷ u))

    found : Gate × List ℕ
    found = (gate_of k (get_or (k ∷ u) 1 0) (get_or (k ∷ u) 2 0), drop (1 + arity k) (k ∷ u))

    yes_case : test ≡ true → k ∷ u ≡ record_of g ++ t
    yes_case b =
        let p = and_parts (ltb k 10) (ltb (arity k) (length (k ∷ u))) b in
        let whole = record_at k u p.0 (ltb-true (arity k) (length (k ∷ u)) p.1) in
        let same : Some found ≡ Some (g, t) = sym (ap (λ z. cond z (Some found) None) b) ∙ e in
        let gate : found.0 ≡ g = cc in
        let rest : found.1 ≡ t = cc in
        whole ∙ ap (λ x. record_of x ++ found.1) gate ∙ ap (λ xs. record_of g ++ xs) rest

    no_case : test ≡ false → k ∷ u ≡ record_of g ++ t
    no_case b =
        let none : ◌≡◌ {A = Option (Gate × List ℕ)} None (Some (g, t)) = sym (ap (λ z. cond z (Some found) None) b) ∙ e in
        grind arith

-- Bytes that are exactly one record are the record of the gate that is read.
pub recorded : (bs : List ℕ) → Recorded bs (gate_in bs)
recorded bs = go (first_record bs) refl
  where
    both : (g h : Gate) (t : List ℕ) → first_record bs ≡ Some (g, t) → bs ≡ record_of h → t ≡ []
    both g h t e f =
        let whole : first_record bs ≡ Some (h, []) = ap first_record (f ∙ sym (append-nil (record_of h))) ∙ first_of h [] in
        let same : ◌≡◌ {A = Option (Gate × List ℕ)} (Some (g, t)) (Some (h, [])) = sym e ∙ whole in
        let pair : ◌≡◌ {A = Gate × List ℕ} (g, t) (h, []) = cc in
        ap (λ x. x.1) pair

    go : (o : Option (Gate × List ℕ)) → first_record bs ≡ o → Recorded bs (alone o)
    go None e = λ h f.
        let whole : first_record bs ≡ Some (h, []) = ap first_record (f ∙ sym (append-nil (record_of h))) ∙ first_of h [] in
        let none : ◌≡◌ {A = Option (Gate × List ℕ)} None (Some (h, [])) = sym e ∙ whole in
        grind arith
    go (Some x) e = rest x.0 x.1 e
      where
        rest : (g : Gate) (t : List ℕ) → first_record bs ≡ Some (g, t) → Recorded bs (alone (Some (g, t)))
        rest g [] f = first_some bs g [] f ∙ append-nil (record_of g)
        rest g (b ∷ t) f = λ h k. let cut : ◌≡◌ {A = List ℕ} (b ∷ t) [] = both g h (b ∷ t) f k in grind arith
