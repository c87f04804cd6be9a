-- Numbers and literals that a text begins with.
use Rattle.std.proofs.Common.{◌≡◌, ℕ, suc, ◌+◌, ◌-◌, ◌*◌, ◌<◌, ◌≤◌, true, false, ◌⊎◌, List, ◌∷◌, length, get_or, drop, pos, negsuc, Some, sym, refl, ap, ◌∙◌, subst, inl, inr, arith}
use Rattle.std.specs.Char.{is_ascii_digit}
use Rattle.std.specs.Fmt.{signed_decimal}
use Rattle.std.proofs.lemmas.List.{drop_more, drop_all}
use Rattle.std.proofs.lemmas.Bool.{lt-leb, cases_lt}
use Rattle.decimals.specs.Decimals.{text_of}
use Rattle.proofgrammar.specs.Parts.{Stops, SmallNumber, SmallLiteral}
use Rattle.proofgrammar.proofs.Words.{one_number, digit_not}
use Rattle.proofgrammar.proofs.Scans.{scan, scan_stops, scan_large, none_from_scan}
use Rattle.proofwords.specs.Words.{NoWord, HasWord}

-- The digits up to the place at were scanned as value.
module _ (bs : List ℕ) (at value : ℕ) (same : scan value (drop at bs) ≡ scan 0 bs) where
  pub too_large : at < length bs → is_ascii_digit (get_or bs at 0) ≡ true → 2147483647 < value * 10 + (get_or bs at 0 - 48) → NoWord text_of SmallNumber bs
  too_large h d l =
      none_from_scan bs
      (sym same ∙ ap (scan value) (drop_more bs at 0 h) ∙ scan_large value (get_or bs at 0) (drop (at + 1) bs) d (lt-leb (value * 10 + (get_or bs at 0 - 48)) 2147483647 l))

  -- The digits end there.
  pub scanned : ((length bs ≤ at) ⊎ (is_ascii_digit (get_or bs at 0) ≡ false)) → scan 0 bs ≡ Some (value, drop at bs)
  scanned end = sym same ∙ scan_stops value (drop at bs) (stops (cases_lt at (length bs)) end)
    where
      stops : ((at < length bs) ⊎ (length bs ≤ at)) → ((length bs ≤ at) ⊎ (is_ascii_digit (get_or bs at 0) ≡ false)) → Stops (drop at bs)
      stops (inr h) e = subst Stops (sym (drop_all at bs h)) tt
      stops (inl h) (inl k) = absurd (omega arith)
      stops (inl h) (inr d) = subst Stops (sym (drop_more bs at 0 h)) d

module _ (bs digits : List ℕ) (minus : bs ≡ 45 ∷ digits) where
  -- a minus with no number behind it
  pub lone_minus : NoWord text_of SmallNumber digits → NoWord signed_decimal SmallLiteral bs
  lone_minus none (pos n) s l h e = digit_not n 45 s digits l refl (sym e ∙ minus)
  lone_minus none (negsuc n) s l h e = none (suc n) s l h (ap (drop 1) (sym minus ∙ e))

  -- a minus with a 0 behind it
  pub minus_zero : (value : ℕ) (rest : List ℕ) → value ≡ 0 → HasWord text_of SmallNumber digits value rest → NoWord signed_decimal SmallLiteral bs
  minus_zero value rest z zero (pos n) s l h e = digit_not n 45 s digits l refl (sym e ∙ minus)
  minus_zero value rest z zero (negsuc n) s l h e =
      let same = one_number value (suc n) rest s zero.0 l zero.1 h (sym zero.2 ∙ ap (drop 1) (sym minus ∙ e)) in
      omega (arith, same.0)
