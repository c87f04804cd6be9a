-- Digits are scanned from the left, up to the first byte that is no digit.
use Rattle.std.proofs.Common.{◌≡◌, ℕ, ◌+◌, ◌-◌, ◌*◌, ◌<◌, ◌≤◌, Bool, true, false, cond, ◌&&◌, leb, ◌≢◌, ◌⊎◌, List, [], ◌∷◌, ◌++◌, length, get_or, Some, None, Option, sym, refl, ap, ◌∙◌, subst, inl, inr, arith, rules}
use Rattle.std.specs.Char.{is_ascii_digit}
use Rattle.std.specs.Str.{all_ascii_digits}
use Rattle.std.proofs.lemmas.List.{length-append, get_or_append_left}
use Rattle.std.proofs.lemmas.Option.{some_pair_parts}
use Rattle.std.proofs.lemmas.Bool.{le-leb, leb-true, cases_lt}
use Rattle.std.proofs.lemmas.Str.Parse.{IsNumeralModel, numerals_by_fold}
use Rattle.std.proofs.lemmas.Fmt.{digits_decimal, digits_value-decimal, decimal-digits_value, decimal_nonempty, decimal_digit, first_decimal}
use Rattle.decimals.specs.Decimals.{text_of}
use Rattle.proofgrammar.specs.Parts.{Stops}

abbrev pub read_on : ℕ → List ℕ → ℕ
read_on n [] = n
read_on n (c ∷ cs) = read_on (n * 10 + (c - 48)) cs

pub own : IsNumeralModel (λ ds. all_ascii_digits ds ≡ true) (read_on 0)
own = numerals_by_fold _ (search rules) read_on (search rules)

-- the number so far with the digits to come, and what is behind them, unless the number gets too large
abbrev pub scan : ℕ → List ℕ → Option (ℕ × List ℕ)
scan n [] = Some (n, [])
scan n (c ∷ cs) = cond (is_ascii_digit c) (cond (leb (n * 10 + (c - 48)) 2147483647) (scan (n * 10 + (c - 48)) cs) None) (Some (n, c ∷ cs))

pub more_digits : (n : ℕ) (ds : List ℕ) → n ≤ read_on n ds
more_digits n [] = omega arith
more_digits n (d ∷ ds) = let h = more_digits (n * 10 + (d - 48)) ds in omega arith

-- a digit, and then digits
pub first_digit : (d : ℕ) (ds : List ℕ) → all_ascii_digits (d ∷ ds) ≡ true → (is_ascii_digit d ≡ true) × (all_ascii_digits ds ≡ true)
first_digit d ds h = (search rules, search rules)

pub scan_stops : (n : ℕ) (s : List ℕ) → Stops s → scan n s ≡ Some (n, s)
scan_stops n [] h = refl
scan_stops n (c ∷ cs) h = rw h

pub scan_digit : (n c : ℕ) (cs : List ℕ) → is_ascii_digit c ≡ true → n * 10 + (c - 48) ≤ 2147483647 → scan n (c ∷ cs) ≡ scan (n * 10 + (c - 48)) cs
scan_digit n c cs d h = rw (d, le-leb (n * 10 + (c - 48)) 2147483647 h)

pub scan_large : (n c : ℕ) (cs : List ℕ) → is_ascii_digit c ≡ true → leb (n * 10 + (c - 48)) 2147483647 ≡ false → scan n (c ∷ cs) ≡ None
scan_large n c cs d f = rw (d, f)

-- Digits are scanned as the number that they write.
pub scan_digits : (n : ℕ) (ds s : List ℕ) → all_ascii_digits ds ≡ true → Stops s → read_on n ds ≤ 2147483647 → scan n (ds ++ s) ≡ Some (read_on n ds, s)
scan_digits n [] s d h l = scan_stops n s h
scan_digits n (c ∷ cs) s d h l =
    let both = first_digit c cs d in
    let low = more_digits (n * 10 + (c - 48)) cs in
    scan_digit n c (cs ++ s) both.0 (omega arith) ∙ scan_digits (n * 10 + (c - 48)) cs s both.1 h l

-- A number's text is scanned as that number.
pub scan_text : (n : ℕ) (s : List ℕ) → n ≤ 2147483647 → Stops s → scan 0 (text_of n ++ s) ≡ Some (n, s)
scan_text n s l h =
    let same = digits_value-decimal own n (omega arith) in
    scan_digits 0 (text_of n) s (digits_decimal own n (omega arith)) h (omega arith) ∙ ap (λ v. Some (v, s)) same

-- bs begins with digits that write v after n, and s is behind them
abbrev pub Scanned : List ℕ → ℕ → ℕ → List ℕ → Type 0
Scanned bs n v s = (ds : List ℕ) × (bs ≡ ds ++ s) × (all_ascii_digits ds ≡ true) × Stops s × (v ≡ read_on n ds) × (v ≤ 2147483647)

scanned_none : (n v : ℕ) (bs s : List ℕ) → n ≤ 2147483647 → Stops bs → ◌≡◌ {A = Option (ℕ × List ℕ)} (Some (n, bs)) (Some (v, s)) → Scanned bs n v s
scanned_none n v bs s l h e =
    let pair : ◌≡◌ {A = ℕ × List ℕ} (n, bs) (v, s) = cc in
    let rest : bs ≡ s = ap (λ x. x.1) pair in
    let value : n ≡ v = ap (λ x. x.0) pair in
    ([], rest, refl, subst Stops rest h, sym value, omega arith)

-- What is scanned are digits, and the number that they write.
pub scan_is : (bs : List ℕ) (n v : ℕ) (s : List ℕ) → n ≤ 2147483647 → scan n bs ≡ Some (v, s) → Scanned bs n v s
scan_is [] n v s l e = scanned_none n v [] s l tt e
scan_is (c ∷ cs) n v s l e = at (is_ascii_digit c) (leb (n * 10 + (c - 48)) 2147483647) refl refl (λ h f. scan_is cs (n * 10 + (c - 48)) v s h f)
  where
    at : (b small : Bool) → is_ascii_digit c ≡ b → leb (n * 10 + (c - 48)) 2147483647 ≡ small
        → (n * 10 + (c - 48) ≤ 2147483647 → scan (n * 10 + (c - 48)) cs ≡ Some (v, s) → Scanned cs (n * 10 + (c - 48)) v s) → Scanned (c ∷ cs) n v s
    at false small d f next = scanned_none n v (c ∷ cs) s l d (sym (scan_stops n (c ∷ cs) d) ∙ e)
    at true true d f next =
        let h = leb-true (n * 10 + (c - 48)) 2147483647 f in
        let more = next h (sym (scan_digit n c cs d h) ∙ e) in
        (c ∷ more.0, ap (λ xs. c ∷ xs) more.1, ap (λ b. b && all_ascii_digits more.0) d ∙ more.2, more.3, more.4, more.5)
    at true false d f next =
        let none : ◌≡◌ {A = Option (ℕ × List ℕ)} None (Some (v, s)) = sym (scan_large n c cs d f) ∙ e in
        grind arith

-- Where nothing is scanned, no number stands.
pub none_from_scan : (bs : List ℕ) → scan 0 bs ≡ None → (n : ℕ) (s : List ℕ) → n ≤ 2147483647 → Stops s → bs ≢ text_of n ++ s
none_from_scan bs e n s l h f =
    let none : ◌≡◌ {A = Option (ℕ × List ℕ)} None (Some (n, s)) = sym e ∙ ap (scan 0) f ∙ scan_text n s l h in
    grind arith

module _ (bs rest : List ℕ) (v : ℕ) (e : scan 0 bs ≡ Some (v, rest)) where
  -- the number whose text stands there is the one that was scanned
  scanned_same : (n : ℕ) (s : List ℕ) → n ≤ 2147483647 → Stops s → bs ≡ text_of n ++ s → (n ≡ v) × (s ≡ rest)
  scanned_same n s l h f = some_pair_parts n v s rest (sym (scan_text n s l h) ∙ ap (scan 0) (sym f) ∙ e)

  -- no digit
  pub none_from_empty : length bs ≤ length rest → (n : ℕ) (s : List ℕ) → n ≤ 2147483647 → Stops s → bs ≢ text_of n ++ s
  none_from_empty k n s l h f =
      let same = scanned_same n s l h f in
      let some = decimal_nonempty n (omega arith) in
      omega (arith, ap length f, length-append (text_of n) s, ap length same.1, k)

  -- a leading zero
  pub none_from_zero : get_or bs 0 0 ≡ 48 → length rest + 1 < length bs → (n : ℕ) (s : List ℕ) → n ≤ 2147483647 → Stops s → bs ≢ text_of n ++ s
  none_from_zero z k n s l h f = at (cases_lt 0 n)
    where
      some : 0 < length (text_of n)
      some = decimal_nonempty n (omega arith)

      size : length bs ≡ length (text_of n) + length rest
      size = ap length f ∙ length-append (text_of n) s ∙ ap (λ xs. length (text_of n) + length xs) (scanned_same n s l h f).1

      first : get_or (text_of n) 0 0 ≡ 48
      first = sym (get_or_append_left (text_of n) s 0 0 some) ∙ ap (λ xs. get_or xs 0 0) (sym f) ∙ z

      at : ((0 < n) ⊎ (n ≤ 0)) → ⊥
      at (inl p) = omega (arith, first_decimal n p (omega arith), first)
      at (inr p) = omega (arith, ap length (decimal_digit n (omega arith)), size)

  -- digits without a leading zero are the text of a number
  pub number_from_scan : length rest < length bs → (get_or bs 0 0 ≡ 48 → length bs ≤ length rest + 1)
      → (v ≤ 2147483647) × Stops rest × (bs ≡ text_of v ++ rest)
  number_from_scan k z = (is.5, is.3, is.1 ∙ ap (λ xs. xs ++ rest) (sym text ∙ ap text_of (sym is.4)))
    where
      is : Scanned bs 0 v rest
      is = scan_is bs 0 v rest (omega arith) e

      size : length bs ≡ length is.0 + length rest
      size = ap length is.1 ∙ length-append is.0 rest

      first : get_or bs 0 0 ≡ get_or is.0 0 0
      first = ap (λ xs. get_or xs 0 0) is.1 ∙ get_or_append_left is.0 rest 0 0 (omega (arith, size))

      text : text_of (read_on 0 is.0) ≡ is.0
      text =
          decimal-digits_value own is.0 is.2 (omega (arith, size)) (λ h. omega (arith, size, z (first ∙ h)))
          (omega (arith, is.4, is.5))
