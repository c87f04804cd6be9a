-- A list of words is read word by word.
use Rattle.std.proofs.Common.{◌≡◌, ℕ, ◌+◌, ◌<◌, ◌≢◌, List, [], ◌∷◌, ◌++◌, length, set, sym, ap, ◌∙◌, arith}
use Rattle.std.specs.List.{AllByRecursion as AllOf}
use Rattle.std.proofs.lemmas.List.{append_assoc, flat_map_more, length-append, length_push}
use Rattle.std.proofs.ByRecursion.{All-push}
use Rattle.proofgrammar.specs.Grammar.{words}
use Rattle.proofgrammar.specs.Kinds.{Kind}
use Rattle.proofgrammar.proofs.Words.{no_word, no_space, nil_first}
use Rattle.proofwords.specs.Words.{NoByte, HasByte, NoWord, HasWord}
use Rattle.prooftext.specs.Lists.{Held, NoList, HasList}
use Rattle.prooftext.proofs.Filling.{held_turn}

-- xs are the words read so far, up to the rest.
module _ {X : Type 0} {text : X → List ℕ} {Small Good : X → Type 0} {nil : X} (k : Kind text Small Good nil) (bs rest : List ℕ) (xs : List X) (good : AllOf Good xs)
    (is : bs ≡ words text xs ++ rest) where
  pub list_none : NoWord text Small rest → NoList text Good bs
  list_none none ys s g h e = no_word k xs ys rest s good g h none (sym is ∙ e)

  module _ (x : X) (behind : List ℕ) (word : HasWord text Small rest x behind) where
    pub list_ends : (before row : List X) (n : ℕ) → Held before row xs → length xs ≡ n → x ≡ nil → HasList text Good bs before row n behind
    list_ends before row n held size e =
        (xs, good, size, held, word.1, is ∙ ap (λ zs. words text xs ++ zs) (word.2 ∙ ap (λ z. text z ++ behind) e ∙ nil_first k behind))

    pub list_broken : x ≢ nil → NoByte 32 behind → NoList text Good bs
    list_broken n none ys s g h e =
        no_space k xs ys x behind s good g h word.0 n word.1 none (sym (ap (λ zs. words text xs ++ zs) word.2) ∙ sym is ∙ e)

    module _ (next : List ℕ) (space : HasByte 32 behind next) where
      -- one more word and its space
      pub list_turn : (before row : List X) (n : ℕ) → Held before row xs → length xs ≡ n → x ≢ nil
          → (ys : List X) × AllOf Good ys × (length ys ≡ n + 1) × Held before (set row n x) ys × (bs ≡ words text ys ++ next)
      list_turn before row n held size z = (
        xs ++ x ∷ [],
        All-push Good xs x good (k.good x word.0 z),
        length_push xs x ∙ ap (λ m. m + 1) size,
        held_turn before row xs x n size held,
        is ∙ ap (λ zs. words text xs ++ zs) (word.2 ∙ ap (λ zs. text x ++ zs) space)
            ∙ ap (λ zs. words text xs ++ zs) (sym (append_assoc (text x) (32 ∷ []) next))
            ∙ sym (append_assoc (words text xs) (text x ++ 32 ∷ []) next)
            ∙ ap (λ zs. zs ++ next) (flat_map_more (λ z. text z ++ 32 ∷ []) [] xs x),
      )

      -- the rest gets shorter
      pub list_less : length next < length rest
      list_less = omega (arith, ap length word.2, length-append (text x) behind, ap length space)
