-- A list of words has one reading, and so has a number or a literal.
use Rattle.std.proofs.Common.{◌≡◌, ℕ, suc, ◌<◌, ◌≤◌, Bool, true, false, ◌≢◌, List, [], ◌∷◌, ◌++◌, length, drop, ℤ, pos, negsuc, sym, refl, ap, ◌∙◌, pos_of_ne-zero, arith}
use Rattle.std.specs.Char.{is_ascii_digit}
use Rattle.std.specs.Fmt.{signed_decimal}
use Rattle.std.specs.List.{AllByRecursion as AllOf}
use Rattle.std.proofs.lemmas.List.{append_assoc, append-nil}
use Rattle.std.proofs.lemmas.Option.{some_pair_parts}
use Rattle.decimals.specs.Decimals.{text_of}
use Rattle.proofgrammar.specs.Grammar.{Number, Literal, words}
use Rattle.proofgrammar.specs.Parts.{Stops, SmallNumber, SmallLiteral}
use Rattle.proofgrammar.specs.Kinds.{One, Kind}
use Rattle.std.specs.Str.{all_ascii_digits}
use Rattle.std.proofs.lemmas.Fmt.{digits_decimal, decimal_nonempty, decimal_digit}
use Rattle.proofgrammar.proofs.Scans.{own, scan, scan_text, first_digit}

pub one_number : One text_of SmallNumber
one_number m n s t l h p q e = some_pair_parts m n s t (sym (scan_text m s l p) ∙ ap (scan 0) e ∙ scan_text n t h q)

-- a number's text begins with a digit
digit_first : (n : ℕ) → n ≤ 2147483647 → (d : ℕ) × (ds : List ℕ) × (text_of n ≡ d ∷ ds) × (is_ascii_digit d ≡ true)
digit_first n l = at (text_of n) refl (digits_decimal own n (omega arith)) (decimal_nonempty n (omega arith))
  where
    at : (bs : List ℕ) → text_of n ≡ bs → all_ascii_digits (text_of n) ≡ true → 0 < length (text_of n) → (d : ℕ) × (ds : List ℕ) × (text_of n ≡ d ∷ ds) × (is_ascii_digit d ≡ true)
    at [] e h k = absurd (omega (arith, ap length e))
    at (d ∷ ds) e h k = (d, ds, e, (first_digit d ds (ap all_ascii_digits (sym e) ∙ h)).0)

-- so it is no other byte that comes first
pub digit_not : (n : ℕ) (c : ℕ) (s t : List ℕ) → n ≤ 2147483647 → is_ascii_digit c ≡ false → text_of n ++ s ≢ c ∷ t
digit_not n c s t l h e =
    let d = digit_first n l in
    let first : d.0 ∷ (d.1 ++ s) ≡ c ∷ t = ap (λ xs. xs ++ s) (sym d.2) ∙ e in
    let same : d.0 ≡ c = cc in
    let z : ◌≡◌ {A = Bool} true false = sym d.3 ∙ ap is_ascii_digit same ∙ h in
    grind arith

pub one_literal : One signed_decimal SmallLiteral
one_literal (pos m) (pos n) s t l h p q e = let both = one_number m n s t l h p q e in (ap pos both.0, both.1)
one_literal (pos m) (negsuc n) s t l h p q e = absurd (digit_not m 45 s (text_of (suc n) ++ t) l refl e)
one_literal (negsuc m) (pos n) s t l h p q e = absurd (digit_not n 45 t (text_of (suc m) ++ s) h refl (sym e))
one_literal (negsuc m) (negsuc n) s t l h p q e =
    let rest : text_of (suc m) ++ s ≡ text_of (suc n) ++ t = cc in
    let both = one_number (suc m) (suc n) s t l h p q rest in
    let value : m ≡ n = omega (arith, both.0) in
    (ap negsuc value, both.1)

pub numbers : Kind text_of SmallNumber Number 0
numbers = record {
  one = one_number;
  small = λ n h. h.1;
  good = λ n h e. (pos_of_ne-zero e, h);
  nil_small = omega arith;
  nil_text = decimal_digit 0 (omega arith);
  nil_bad = λ n h e. omega (arith, h.0);
}

literal_good : (l : ℤ) → SmallLiteral l → l ≢ pos 0 → Literal l
literal_good (pos n) s h = (pos_of_ne-zero (λ e. h (ap pos e)), s)
literal_good (negsuc n) s h = (omega arith, s)

not_zero : (l : ℤ) → Literal l → l ≢ pos 0
not_zero (pos n) h e = let z : ◌≡◌ {A = ℕ} n 0 = cc in omega (arith, h.0)
not_zero (negsuc n) h e = let z : ◌≡◌ {A = ℕ} 0 1 = cc in omega arith

pub literals : Kind signed_decimal SmallLiteral Literal (pos 0)
literals = record {
  one = one_literal;
  small = λ l h. h.1;
  good = literal_good;
  nil_small = omega arith;
  nil_text = decimal_digit 0 (omega arith);
  nil_bad = not_zero;
}

module _ {X : Type 0} {text : X → List ℕ} {Small Good : X → Type 0} {nil : X} (k : Kind text Small Good nil) where
  pub word_first : (x : X) (xs : List X) (s : List ℕ) → words text (x ∷ xs) ++ s ≡ text x ++ (32 ∷ (words text xs ++ s))
  word_first x xs s = append_assoc (text x ++ 32 ∷ []) (words text xs) s ∙ append_assoc (text x) (32 ∷ []) (words text xs ++ s)

  pub nil_first : (s : List ℕ) → text nil ++ s ≡ 48 ∷ s
  nil_first s = ap (λ xs. xs ++ s) k.nil_text

  -- What is left of a list behind some words is the rest of the list.
  pub words_cut : (gs xs : List X) (rest s : List ℕ) → AllOf Good gs → AllOf Good xs → Stops s → words text gs ++ rest ≡ words text xs ++ (48 ∷ s)
      → (ys : List X) × (xs ≡ gs ++ ys) × AllOf Good ys × (rest ≡ words text ys ++ (48 ∷ s))
  words_cut [] xs rest s g h p e = (xs, refl, h, e)
  words_cut (x ∷ gs) [] rest s g h p e =
      let same = k.one x nil (32 ∷ (words text gs ++ rest)) s (k.small x g.0) k.nil_small refl p (sym (word_first x gs rest) ∙ e ∙ sym (nil_first s)) in
      absurd (k.nil_bad x g.0 same.0)
  words_cut (x ∷ gs) (y ∷ xs) rest s g h p e =
      let same = k.one x y (32 ∷ (words text gs ++ rest)) (32 ∷ (words text xs ++ (48 ∷ s))) (k.small x g.0) (k.small y h.0) refl refl (sym (word_first x gs rest) ∙ e ∙ word_first y xs (48 ∷ s)) in
      let back : words text gs ++ rest ≡ words text xs ++ (48 ∷ s) = ap (drop 1) same.1 in
      let more = words_cut gs xs rest s g.1 h.1 p back in
      (more.0, ap (λ z. z ∷ xs) (sym same.0) ∙ ap (λ zs. x ∷ zs) more.1, more.2, more.3)

  -- A list has one reading.
  pub one_list : (xs ys : List X) (s t : List ℕ) → AllOf Good xs → AllOf Good ys → Stops s → Stops t → words text xs ++ (48 ∷ s) ≡ words text ys ++ (48 ∷ t)
      → (xs ≡ ys) × (s ≡ t)
  one_list xs ys s t g h p q e = let cut = words_cut xs ys (48 ∷ s) t g h q e in at cut.0 cut.1 cut.2 cut.3
    where
      at : (zs : List X) → ys ≡ xs ++ zs → AllOf Good zs → 48 ∷ s ≡ words text zs ++ (48 ∷ t) → (xs ≡ ys) × (s ≡ t)
      at [] f a r = (sym (f ∙ append-nil xs), ap (drop 1) r)
      at (z ∷ zs) f a r =
          let same = k.one nil z s (32 ∷ (words text zs ++ (48 ∷ t))) k.nil_small (k.small z a.0) p refl (nil_first s ∙ r ∙ word_first z zs (48 ∷ t)) in
          absurd (k.nil_bad z a.0 (sym same.0))

  -- No list goes on with what is no word.
  pub no_word : (gs xs : List X) (rest s : List ℕ) → AllOf Good gs → AllOf Good xs → Stops s
      → ((x : X) (t : List ℕ) → Small x → Stops t → rest ≢ text x ++ t) → words text gs ++ rest ≢ words text xs ++ (48 ∷ s)
  no_word gs xs rest s g h p none e = let cut = words_cut gs xs rest s g h p e in at cut.0 cut.2 cut.3
    where
      at : (zs : List X) → AllOf Good zs → rest ≡ words text zs ++ (48 ∷ s) → ⊥
      at [] a r = none nil s k.nil_small p (r ∙ sym (nil_first s))
      at (z ∷ zs) a r = none z (32 ∷ (words text zs ++ (48 ∷ s))) (k.small z a.0) refl (r ∙ word_first z zs (48 ∷ s))

  -- No list goes on with a word that no space follows.
  pub no_space : (gs xs : List X) (x : X) (t s : List ℕ) → AllOf Good gs → AllOf Good xs → Stops s → Small x → x ≢ nil → Stops t
      → ((r : List ℕ) → t ≢ 32 ∷ r) → words text gs ++ (text x ++ t) ≢ words text xs ++ (48 ∷ s)
  no_space gs xs x t s g h p l n q none e = let cut = words_cut gs xs (text x ++ t) s g h p e in at cut.0 cut.2 cut.3
    where
      at : (zs : List X) → AllOf Good zs → text x ++ t ≡ words text zs ++ (48 ∷ s) → ⊥
      at [] a r = n (k.one x nil t s l k.nil_small q p (r ∙ sym (nil_first s))).0
      at (z ∷ zs) a r = none (words text zs ++ (48 ∷ s)) (k.one x z t (32 ∷ (words text zs ++ (48 ∷ s))) l (k.small z a.0) q refl (r ∙ word_first z zs (48 ∷ s))).1
