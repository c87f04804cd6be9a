-- A proof line is read part by part.
use Rattle.std.proofs.Common.{◌≡◌, ℕ, List, ◌∷◌, ◌++◌, drop, sym, refl, ap, ◌∙◌, arith}
use Rattle.std.specs.Fmt.{signed_decimal}
use Rattle.clauses.specs.Clauses.{Clause}
use Rattle.decimals.specs.Decimals.{text_of}
use Rattle.proofgrammar.specs.Grammar.{line, strike, Number, Literal}
use Rattle.proofgrammar.specs.Parts.{SmallNumber, tail_text, line_body, strike_tail, strike_body}
use Rattle.proofgrammar.proofs.Words.{numbers, literals, one_number, one_list}
use Rattle.proofgrammar.proofs.Lines.{line_open, strike_open, line_not_d, one_front}
use Rattle.proofwords.specs.Words.{NoByte, HasByte, HasWord}
use Rattle.prooftext.specs.declared.item.Item.{Item}
use Rattle.prooftext.specs.declared.item.Item.TheVariants.{Strike}
use Rattle.prooftext.specs.Rows.{Rows}
use Rattle.prooftext.specs.Lists.{HasList}
use Rattle.prooftext.specs.Parts.{NoFront, HasFront, NoNumbers, HasNumbers, NoBody, HasBody}
use Rattle.prooftext.specs.Items.{NoLine, HasLine}

module _ (bs : List ℕ) (value : ℕ) (rest : List ℕ) (word : HasWord text_of SmallNumber bs value rest) where
  pub front_zero : value ≡ 0 → NoFront bs
  front_zero z n s g e = let same = one_number value n rest (32 ∷ s) word.0 g.1 word.1 refl (sym word.2 ∙ e) in omega (arith, same.0, g.0)

  pub front_broken : NoByte 32 rest → NoFront bs
  front_broken none n s g e = none s (one_number value n rest (32 ∷ s) word.0 g.1 word.1 refl (sym word.2 ∙ e)).1

pub tail_broken : (bs before row : List ℕ) (n : ℕ) (rest : List ℕ) → HasList text_of Number bs before row n rest → NoByte 10 rest → NoNumbers tail_text bs
tail_broken bs before row n rest list none ys s h e = none s (one_list numbers list.0 ys rest (10 ∷ s) list.1 h list.4 refl (sym list.5 ∙ e)).1

module _ (bs : List ℕ) (before row : Clause) (n : ℕ) (rest : List ℕ) (list : HasList signed_decimal Literal bs before row n rest) where
  pub body_broken : NoByte 32 rest → NoBody bs
  body_broken none ms hs s g h e = none (tail_text hs s) (one_list literals list.0 ms rest (32 ∷ tail_text hs s) list.1 g list.4 refl (sym list.5 ∙ e)).1

  pub body_none : (tail : List ℕ) → HasByte 32 rest tail → NoNumbers tail_text tail → NoBody bs
  body_none tail space none ms hs s g h e =
      none hs s h (ap (drop 1) (sym space ∙ (one_list literals list.0 ms rest (32 ∷ tail_text hs s) list.1 g list.4 refl (sym list.5 ∙ e)).1))

pub line_no_front : (bs : List ℕ) → NoFront bs → NoLine bs
line_no_front bs none (line n ls hs) s p e = none n (line_body ls hs s) p.0 (e ∙ line_open n ls hs s)
line_no_front bs none (strike n ss) s p e = none n (strike_body ss s) p.0 (e ∙ strike_open n ss s)

-- The number n stands in front.
module _ (bs : List ℕ) (n : ℕ) (rest : List ℕ) (front : HasFront bs n rest) where
  module _ (tail : List ℕ) (d : HasByte 100 rest tail) where
    pub line_no_strike : NoNumbers strike_tail tail → NoLine bs
    line_no_strike none (line m ls hs) s p e =
        let same = one_front n m rest (line_body ls hs s) front.0.1 p.0.1 (sym front.1 ∙ e ∙ line_open m ls hs s) in
        line_not_d ls (32 ∷ tail_text hs s) tail p.1 (sym same.1 ∙ d)
    line_no_strike none (strike m ss) s p e =
        none ss s p.1 (ap (drop 1) (sym d ∙ (one_front n m rest (strike_body ss s) front.0.1 p.0.1 (sym front.1 ∙ e ∙ strike_open m ss s)).1))

    pub line_strike : (before after : Rows) (count : ℕ) (next : List ℕ) → after.literals ≡ before.literals
        → HasNumbers strike_tail tail before.numbers after.numbers count next → HasLine bs before after (Strike count) next
    line_strike before after count next same found = (
      strike n found.0,
      (front.0, found.1),
      ap Strike found.2,
      (λ h. same),
      found.3,
      front.1 ∙ ap (λ xs. text_of n ++ (32 ∷ xs)) (d ∙ ap (λ xs. 100 ∷ xs) found.4) ∙ sym (strike_open n found.0 next),
    )

  pub line_no_body : NoByte 100 rest → NoBody rest → NoLine bs
  line_no_body d none (line m ls hs) s p e =
      none ls hs s p.1 p.2 (one_front n m rest (line_body ls hs s) front.0.1 p.0.1 (sym front.1 ∙ e ∙ line_open m ls hs s)).1
  line_no_body d none (strike m ss) s p e =
      d (32 ∷ tail_text ss s) (one_front n m rest (strike_body ss s) front.0.1 p.0.1 (sym front.1 ∙ e ∙ strike_open m ss s)).1

  pub line_clause : (before after : Rows) (item : Item) (next : List ℕ) → HasBody n rest before after item next → HasLine bs before after item next
  line_clause before after item next found = (
    line n found.0 found.1,
    (front.0, found.2, found.3),
    found.4,
    found.5,
    found.6,
    front.1 ∙ ap (λ xs. text_of n ++ (32 ∷ xs)) found.7 ∙ sym (line_open n found.0 found.1 next),
  )
