-- Entries lined up one after the other, in a row that was lent in part.
use Rattle.std.proofs.Common.{◌≡◌, ℕ, zero, suc, ◌+◌, ◌-◌, ◌<◌, ◌≤◌, List, [], ◌∷◌, ◌++◌, length, get_or, take, drop, set, refl, ap, ◌∙◌, ap₂, arith}
use borrow.Rule.Slice.PartMut.{put_mid}
use Rattle.std.specs.List.{insert, remove}
use Rattle.std.proofs.lemmas.List.{length-append, length-drop, length-take-le, take_at, drop_at, take_rest, drop_all, take_all, append-nil}
use Rattle.store.specs.declared.entry.Entry.{Entry}
use Rattle.store.specs.Rows.{lengths, lined_up}

-- ---- one after the other

pub length_lined_up : (at : ℕ) (es : List Entry) → length (lined_up at es) ≡ length es
length_lined_up at [] = refl
length_lined_up at (e ∷ es) = ap suc (length_lined_up (at + e.length) es)

pub lined_read : (at : ℕ) (es fs : List Entry) (i : ℕ) (d : Entry) → i < length es → fs ≡ lined_up at (take i es) ++ drop i es → get_or fs i d ≡ get_or es i d
lined_read at es fs i d h f = ap (λ zs. get_or zs i d) f ∙ go at es i h
  where
    go : (at : ℕ) (es : List Entry) (i : ℕ) → i < length es → get_or (lined_up at (take i es) ++ drop i es) i d ≡ get_or es i d
    go at [] i h = absurd (omega arith)
    go at (e ∷ es) zero h = refl
    go at (e ∷ es) (suc i) h = go (at + e.length) es i (omega arith)

lined_more : (at : ℕ) (es : List Entry) (i s : ℕ) (d : Entry) → i < length es → s ≡ at + lengths (take i es)
    → set (lined_up at (take i es) ++ drop i es) i (record { number = (get_or es i d).number; start = s; length = (get_or es i d).length })
    ≡ lined_up at (take (suc i) es) ++ drop (suc i) es
lined_more at [] i s d h is = absurd (omega arith)
lined_more at (e ∷ es) zero s d h is =
    let same : s ≡ at = omega arith in ap (λ k. record { number = e.number; start = k; length = e.length } ∷ es) same
lined_more at (e ∷ es) (suc i) s d h is =
    ap (◌∷◌ (record { number = e.number; start = at; length = e.length })) (lined_more (at + e.length) es i s d (omega arith) (omega arith))

pub lined_next : (at : ℕ) (es fs : List Entry) (i s : ℕ) (d : Entry) → i < length es → s ≡ at + lengths (take i es) → fs ≡ lined_up at (take i es) ++ drop i es
    → set fs i (record { number = (get_or fs i d).number; start = s; length = (get_or fs i d).length }) ≡ lined_up at (take (i + 1) es) ++ drop (i + 1) es
lined_next at es fs i s d h is f =
    let next : suc i ≡ i + 1 = omega arith in
    ap₂ (λ zs (e : Entry). set zs i (record { number = e.number; start = s; length = e.length })) f (lined_read at es fs i d h f)
    ∙ lined_more at es i s d h is ∙ ap (λ k. lined_up at (take k es) ++ drop k es) next

pub lined_all : (at : ℕ) (es fs : List Entry) (i : ℕ) → length es ≤ i → fs ≡ lined_up at (take i es) ++ drop i es → fs ≡ lined_up at es
lined_all at es fs i h f = f ∙ ap₂ (λ p q. lined_up at p ++ q) (take_all i es h) (drop_all i es h) ∙ append-nil (lined_up at es)

-- ---- from a place on

pub lined_behind : (vs ws ts : List Entry) (at from n : ℕ) → ws ≡ vs → at ≤ length vs → n ≡ length vs → ts ≡ lined_up from (take (length ws - at) (drop at ws))
    → take n (put_mid at (length ws - at) ws ts ++ drop (length (put_mid at (length ws - at) ws ts)) vs) ≡ take at vs ++ lined_up from (drop at vs)
lined_behind vs ws ts at from n w h long t =
    let behind : drop (length ws - at) (drop at ws) ≡ [] = drop_all (length ws - at) (drop at ws) (omega (arith, length-drop at ws)) in
    let part : put_mid at (length ws - at) ws ts ≡ take at vs ++ lined_up from (drop at vs) =
    ap (λ zs. take at ws ++ (ts ++ zs)) behind ∙ ap (λ zs. take at ws ++ zs) (append-nil ts ∙ t) ∙ ap (λ p. take at ws ++ lined_up from p) (take_rest ws at)
    ∙ ap (λ zs. take at zs ++ lined_up from (drop at zs)) w in
    let size : length (put_mid at (length ws - at) ws ts) ≡ n =
    ap length part
    ∙ (omega (arith, length-append (take at vs) (lined_up from (drop at vs)), length-take-le at vs h, length_lined_up from (drop at vs), length-drop at vs)) in
    take_at (put_mid at (length ws - at) ws ts) (drop (length (put_mid at (length ws - at) ws ts)) vs) n size ∙ part

pub length_behind : (es ws : List Entry) (at from : ℕ) → ws ≡ take at es ++ lined_up from (drop at es) → at ≤ length es → length ws ≡ length es
length_behind es ws at from w h =
    ap length w
    ∙ (omega (arith, length-append (take at es) (lined_up from (drop at es)), length-take-le at es h, length_lined_up from (drop at es), length-drop at es))

pub lined_put : (es ws vs : List Entry) (at from : ℕ) (e : Entry) → ws ≡ take at es ++ lined_up from (drop at es) → vs ≡ insert ws at e → at ≤ length es
    → vs ≡ take at es ++ e ∷ lined_up from (drop at es)
lined_put es ws vs at from e w v h =
    let front = length-take-le at es h in
    v ∙ ap (λ zs. insert zs at e) w
    ∙ ap₂ (λ p q. p ++ e ∷ q) (take_at (take at es) (lined_up from (drop at es)) at front) (drop_at (take at es) (lined_up from (drop at es)) at front)

pub lined_left : (es vs : List Entry) (at from : ℕ) → vs ≡ remove es at → at < length es
    → take at vs ++ lined_up from (drop at vs) ≡ take at es ++ lined_up from (drop (suc at) es)
lined_left es vs at from v h =
    let front = length-take-le at es (omega arith) in
    ap (λ zs. take at zs ++ lined_up from (drop at zs)) v
    ∙ ap₂ (λ p q. p ++ lined_up from q) (take_at (take at es) (drop (suc at) es) at front) (drop_at (take at es) (drop (suc at) es) at front)

-- what is behind the place then
pub behind_left : (es vs : List Entry) (at : ℕ) → vs ≡ remove es at → at < length es → drop at vs ≡ drop (suc at) es
behind_left es vs at v h = ap (drop at) v ∙ drop_at (take at es) (drop (suc at) es) at (length-take-le at es (omega arith))
