-- What is cut from a row, and what stays when a line is put in or taken out.
use Rattle.std.proofs.Common.{◌≡◌, ℕ, zero, suc, ◌+◌, ◌<◌, ◌≤◌, true, eqb, List, [], ◌∷◌, ◌++◌, length, get_or, take, drop, ℤ, Some, None, Option, sym, refl, ap, ◌∙◌, ap₂, arith}
use Rattle.std.proofs.lemmas.List.{drop-drop, take-append-le, drop-append-le, length-drop, length-take-le, take_at, drop_at, take-append-drop}
use Rattle.std.specs.List.{slice_get, insert, remove}
use Rattle.std.proofs.lemmas.Bool.{eqb-true, eq-eqb, and_parts, and_from}
use Rattle.clauses.specs.Clauses.{Clause}
use Rattle.store.specs.declared.entry.Entry.{Entry}
use Rattle.store.specs.Rows.{cut, lengths, packed, lined_up, literals_in}

-- ---- reading

pub length_cut : (es : List Entry) (row : List ℤ) → length (cut es row) ≡ length es
length_cut [] row = refl
length_cut (e ∷ es) row = ap suc (length_cut es (drop e.length row))

pub cut_number : (es : List Entry) (row : List ℤ) (i : ℕ) (d : Entry) (x : ℕ × Clause) → i < length es
    → (get_or (cut es row) i x).0 ≡ (get_or es i d).number
cut_number [] row i d x h = absurd (omega arith)
cut_number (e ∷ es) row zero d x h = refl
cut_number (e ∷ es) row (suc i) d x h = cut_number es (drop e.length row) i d x (omega arith)

cut_from : (es : List Entry) (row whole : List ℤ) (at end i : ℕ) (d : Entry) (x : ℕ × Clause) → packed at es end ≡ true → row ≡ drop at whole
    → i < length es → get_or (cut es row) i x ≡ ((get_or es i d).number, take (get_or es i d).length (drop (get_or es i d).start whole))
cut_from [] row whole at end i d x p e h = absurd (omega arith)
cut_from (f ∷ es) row whole at end zero d x p e h =
    let q = and_parts (eqb f.start at) (packed (at + f.length) es end) p in
    let s = eqb-true f.start at q.0 in
    ap (λ r. (f.number, take f.length r)) (e ∙ ap (λ k. drop k whole) (sym s))
cut_from (f ∷ es) row whole at end (suc i) d x p e h =
    let q = and_parts (eqb f.start at) (packed (at + f.length) es end) p in
    cut_from es (drop f.length row) whole (at + f.length) end i d x q.1 (ap (drop f.length) e ∙ drop-drop f.length at whole) (omega arith)

-- the line of an entry
pub cut_read : (es : List Entry) (row : List ℤ) (end i : ℕ) (d : Entry) (x : ℕ × Clause) → packed 0 es end ≡ true → i < length es
    → get_or (cut es row) i x ≡ ((get_or es i d).number, take (get_or es i d).length (drop (get_or es i d).start row))
cut_read es row end i d x p h = cut_from es row row 0 end i d x p refl h

pub all_lengths : (es : List Entry) (at end : ℕ) → packed at es end ≡ true → at + lengths es ≡ end
all_lengths [] at end p = omega (arith, eqb-true at end p)
all_lengths (e ∷ es) at end p =
    let q = and_parts (eqb e.start at) (packed (at + e.length) es end) p in omega (arith, all_lengths es (at + e.length) end q.1)

-- an entry ends within the row
pub entry_ends : (es : List Entry) (at end i : ℕ) (d : Entry) → packed at es end ≡ true → i < length es
    → ((get_or es i d).start + (get_or es i d).length ≤ end) × ((get_or es i d).start ≡ at + lengths (take i es))
entry_ends [] at end i d p h = absurd (omega arith)
entry_ends (e ∷ es) at end zero d p h =
    let q = and_parts (eqb e.start at) (packed (at + e.length) es end) p in
    let s = eqb-true e.start at q.0 in
    let t = all_lengths es (at + e.length) end q.1 in
    (omega arith, omega arith)
entry_ends (e ∷ es) at end (suc i) d p h =
    let q = and_parts (eqb e.start at) (packed (at + e.length) es end) p in
    let later = entry_ends es (at + e.length) end i d q.1 (omega arith) in
    (later.0, omega (arith, later.1))

-- where the line at a place starts, or would start
abbrev pub start_of : ℕ → Option Entry → ℕ
start_of end None = end
start_of end (Some e) = e.start

pub starts_at : (es : List Entry) (at end i : ℕ) → packed at es end ≡ true → i ≤ length es → start_of end (slice_get es i) ≡ at + lengths (take i es)
starts_at [] at end zero p h = let same = eqb-true at end p in omega arith
starts_at [] at end (suc i) p h = absurd (omega arith)
starts_at (e ∷ es) at end zero p h =
    let q = and_parts (eqb e.start at) (packed (at + e.length) es end) p in
    let same = eqb-true e.start at q.0 in
    omega arith
starts_at (e ∷ es) at end (suc i) p h =
    let q = and_parts (eqb e.start at) (packed (at + e.length) es end) p in
    omega (arith, starts_at es (at + e.length) end i q.1 (omega arith))

-- ---- entries in two parts

pub cut_append : (xs ys : List Entry) (row : List ℤ) → cut (xs ++ ys) row ≡ cut xs row ++ cut ys (drop (lengths xs) row)
cut_append [] ys row = refl
cut_append (x ∷ xs) ys row =
    ap (◌∷◌ (x.number, take x.length row)) (
    cut_append xs ys (drop x.length row) ∙ ap (λ r. cut xs (drop x.length row) ++ cut ys r) (drop-drop (lengths xs) x.length row)
    )

-- what is behind the entries' literals does not matter
cut_front : (xs : List Entry) (row more : List ℤ) → lengths xs ≤ length row → cut xs (row ++ more) ≡ cut xs row
cut_front [] row more h = refl
cut_front (x ∷ xs) row more h =
    ap₂ (λ c r. (x.number, c) ∷ cut xs r) (take-append-le x.length row more (omega arith)) (drop-append-le x.length row more (omega arith))
    ∙ ap (◌∷◌ (x.number, take x.length row)) (cut_front xs (drop x.length row) more (omega (arith, length-drop x.length row)))

-- nor does where they say that they start
cut_lined_up : (at : ℕ) (es : List Entry) (row : List ℤ) → cut (lined_up at es) row ≡ cut es row
cut_lined_up at [] row = refl
cut_lined_up at (e ∷ es) row = ap (◌∷◌ (e.number, take e.length row)) (cut_lined_up (at + e.length) es (drop e.length row))

lengths_append : (xs ys : List Entry) → lengths (xs ++ ys) ≡ lengths xs + lengths ys
lengths_append [] ys = omega arith
lengths_append (x ∷ xs) ys = omega (arith, lengths_append xs ys)

-- the lines before a place, and those from it on
cut_take : (i : ℕ) (es : List Entry) (row : List ℤ) → take i (cut es row) ≡ cut (take i es) row
cut_take zero es row = refl
cut_take (suc i) [] row = refl
cut_take (suc i) (e ∷ es) row = ap (◌∷◌ (e.number, take e.length row)) (cut_take i es (drop e.length row))

cut_drop : (i : ℕ) (es : List Entry) (row : List ℤ) → drop i (cut es row) ≡ cut (drop i es) (drop (lengths (take i es)) row)
cut_drop zero es row = refl
cut_drop (suc i) [] row = refl
cut_drop (suc i) (e ∷ es) row =
    cut_drop i es (drop e.length row) ∙ ap (cut (drop i es)) (drop-drop (lengths (take i es)) e.length row)

-- The front of a row is cut as before, whatever comes behind it.
cut_kept : (xs : List Entry) (row more : List ℤ) → lengths xs ≤ length row → cut xs (take (lengths xs) row ++ more) ≡ cut xs row
cut_kept xs row more h =
    let n = lengths xs in
    let front = length-take-le n row h in
    cut_front xs (take n row) more (omega arith) ∙ sym (cut_front xs (take n row) (drop n row) (omega arith)) ∙ ap (cut xs) (take-append-drop n row)

-- ---- a line put in

pub cut_put_in : (es : List Entry) (row c : List ℤ) (i at : ℕ) (e : Entry) → lengths (take i es) ≤ length row → e.length ≡ length c
    → cut (take i es ++ lined_up at (e ∷ drop i es)) (take (lengths (take i es)) row ++ (c ++ drop (lengths (take i es)) row))
    ≡ insert (cut es row) i (e.number, c)
cut_put_in es row c i at e h len =
    let n = lengths (take i es) in
    let behind = drop n row in
    let ys = lined_up at (e ∷ drop i es) in
    cut_append (take i es) ys (take n row ++ (c ++ behind))
    ∙ ap₂ (λ p r. p ++ cut ys r) (cut_kept (take i es) row (c ++ behind) h) (drop_at (take n row) (c ++ behind) n (length-take-le n row h))
    ∙ ap (λ zs. cut (take i es) row ++ zs) (cut_lined_up at (e ∷ drop i es) (c ++ behind))
    ∙ ap₂ (λ x r. cut (take i es) row ++ (e.number, x) ∷ cut (drop i es) r) (take_at c behind e.length (sym len)) (drop_at c behind e.length (sym len))
    ∙ ap₂ (λ p q. p ++ (e.number, c) ∷ q) (sym (cut_take i es row)) (sym (cut_drop i es row))

-- ---- a line taken out

pub lengths_more : (es : List Entry) (i : ℕ) (d : Entry) → i < length es → lengths (take (suc i) es) ≡ lengths (take i es) + (get_or es i d).length
lengths_more [] i d h = absurd (omega arith)
lengths_more (e ∷ es) zero d h = omega arith
lengths_more (e ∷ es) (suc i) d h = omega (arith, lengths_more es i d (omega arith))

pub lengths_next : (es : List Entry) (i : ℕ) (d : Entry) → i < length es → lengths (take (i + 1) es) ≡ lengths (take i es) + (get_or es i d).length
lengths_next es i d h = let next : i + 1 ≡ suc i = omega arith in ap (λ k. lengths (take k es)) next ∙ lengths_more es i d h

pub cut_taken_out : (es : List Entry) (row : List ℤ) (i at : ℕ) (d : Entry) → i < length es → lengths (take i es) ≤ length row
    → cut (take i es ++ lined_up at (drop (suc i) es)) (take (lengths (take i es)) row ++ drop (lengths (take i es) + (get_or es i d).length) row)
    ≡ remove (cut es row) i
cut_taken_out es row i at d inside h =
    let n = lengths (take i es) in
    let k = (get_or es i d).length in
    let ys = lined_up at (drop (suc i) es) in
    cut_append (take i es) ys (take n row ++ drop (n + k) row)
    ∙ ap₂ (λ p r. p ++ cut ys r) (cut_kept (take i es) row (drop (n + k) row) h) (drop_at (take n row) (drop (n + k) row) n (length-take-le n row h))
    ∙ ap₂ ◌++◌ (sym (cut_take i es row)) (
    cut_lined_up at (drop (suc i) es) (drop (n + k) row) ∙ ap (λ m. cut (drop (suc i) es) (drop m row)) (sym (lengths_more es i d inside)) ∙ sym (cut_drop (suc i) es row)
    )

-- ---- the entries stay packed

packed_join : (xs ys zs : List Entry) (at end last : ℕ) → packed at (xs ++ ys) end ≡ true → packed (at + lengths xs) zs last ≡ true
    → packed at (xs ++ zs) last ≡ true
packed_join [] ys zs at end last p z = let same : at ≡ at + 0 = omega arith in ap (λ k. packed k zs last) same ∙ z
packed_join (x ∷ xs) ys zs at end last p z =
    let q = and_parts (eqb x.start at) (packed (at + x.length) (xs ++ ys) end) p in
    let same : at + x.length + lengths xs ≡ at + (x.length + lengths xs) = omega arith in
    and_from (eqb x.start at) (packed (at + x.length) (xs ++ zs) last) q.0 (
    packed_join xs ys zs (at + x.length) end last q.1 (ap (λ k. packed k zs last) same ∙ z)
    )

packed_lined_up : (es : List Entry) (at end : ℕ) → at + lengths es ≡ end → packed at (lined_up at es) end ≡ true
packed_lined_up [] at end h = eq-eqb at end (omega arith)
packed_lined_up (e ∷ es) at end h =
    and_from (eqb at at) (packed (at + e.length) (lined_up (at + e.length) es) end) (eq-eqb at at refl) (packed_lined_up es (at + e.length) end (omega arith))

-- where a front of them is kept, and others are lined up behind it
pub packed_behind : (es fs : List Entry) (i end last : ℕ) → packed 0 es end ≡ true → lengths (take i es) + lengths fs ≡ last
    → packed 0 (take i es ++ lined_up (lengths (take i es)) fs) last ≡ true
packed_behind es fs i end last p h =
    let n = lengths (take i es) in
    let whole : packed 0 (take i es ++ drop i es) end ≡ true = ap (λ xs. packed 0 xs end) (take-append-drop i es) ∙ p in
    let same : 0 + n ≡ n = omega arith in
    packed_join (take i es) (drop i es) (lined_up n fs) 0 end last whole (ap (λ k. packed k (lined_up n fs) last) same ∙ packed_lined_up fs n last h)

-- ---- how far the entries reach

pub literals_cut : (es : List Entry) (row : List ℤ) → lengths es ≤ length row → literals_in (cut es row) ≡ lengths es
literals_cut [] row h = refl
literals_cut (e ∷ es) row h =
    omega (arith, length-take-le e.length row (omega arith), literals_cut es (drop e.length row) (omega (arith, length-drop e.length row)))

pub lengths_parts : (es : List Entry) (i : ℕ) → lengths (take i es) + lengths (drop i es) ≡ lengths es
lengths_parts es i = sym (lengths_append (take i es) (drop i es)) ∙ ap lengths (take-append-drop i es)

pub lengths_within : (es : List Entry) (i end : ℕ) → packed 0 es end ≡ true → lengths (take i es) ≤ end
lengths_within es i end p = omega (arith, lengths_parts es i, all_lengths es 0 end p)
