-- What is taken piece after piece is taken in one.
use Rattle.std.specs.Prelude.{◌≡◌, ℕ, ◌+◌, ◌≤◌, List, [], ◌++◌, length, take, drop}
use Rattle.std.proofs.Common.{sym, ap, ◌∙◌, arith, append_assoc}
use Rattle.std.proofs.lemmas.List.{drop-drop, take_at, drop_at, take-append-drop, length-append, length-take, length-drop}
use Rattle.buffers.specs.Buffers.{written_at}
use Rattle.buffers.specs.Sinks.{Counted, Placed}

pub counted_none : (n : ℕ) → Counted n [] n
counted_none n _ = omega arith

pub counted_then : (n k m : ℕ) (xs ys : List ℕ) → Counted n xs k → Counted k ys m → Counted n (xs ++ ys) m
counted_then n k m xs ys p q h =
    let size = length-append xs ys in
    let first = p (omega arith) in
    let next = q (omega arith) in
    omega arith

-- A write leaves as many bytes as there were.
pub length_written : (at : ℕ) (bytes buffer : List ℕ) → at + length bytes ≤ length buffer → length (written_at at bytes buffer) ≡ length buffer
length_written at bytes buffer h = simp (length-append, length-take, length-drop) (omega arith)

-- what a write behind the bytes done leaves
put_more : (done piece start : List ℕ) (at : ℕ) → length done ≡ at
    → written_at at piece (done ++ drop at start) ≡ (done ++ piece) ++ drop (at + length piece) start
put_more done piece start at e =
    let front = take_at done (drop at start) at e in
    let back : drop (at + length piece) (done ++ drop at start) ≡ drop (at + length piece) start =
    sym (drop-drop (length piece) at (done ++ drop at start)) ∙ ap (drop (length piece)) (drop_at done (drop at start) at e) ∙ drop-drop (length piece) at start in
    rw (front, back) (sym (append_assoc done piece (drop (at + length piece) start)))

-- Two pieces one after the other are one.
pub written_both : (at : ℕ) (xs ys buffer : List ℕ) → at ≤ length buffer
    → written_at (at + length xs) ys (written_at at xs buffer) ≡ written_at at (xs ++ ys) buffer
written_both at xs ys buffer h =
    let done = take at buffer ++ xs in
    let size : length done ≡ at + length xs = length-append (take at buffer) xs ∙ ap (λ n. n + length xs) (length-take at buffer ∙ omega arith) in
    let split : written_at at xs buffer ≡ done ++ drop (at + length xs) buffer = sym (append_assoc (take at buffer) xs (drop (at + length xs) buffer)) in
    let whole : (at + length xs) + length ys ≡ at + length (xs ++ ys) = omega (arith, length-append xs ys) in
    ap (written_at (at + length xs) ys) split ∙ put_more done ys buffer (at + length xs) size
    ∙ ap (λ zs. zs ++ drop ((at + length xs) + length ys) buffer) (append_assoc (take at buffer) xs ys)
    ∙ append_assoc (take at buffer) (xs ++ ys) (drop ((at + length xs) + length ys) buffer)
    ∙ ap (λ n. take at buffer ++ ((xs ++ ys) ++ drop n buffer)) whole

pub placed_none : (at : ℕ) (buffer : List ℕ) → Placed at buffer [] at buffer
placed_none at buffer _ =
    let here : at + 0 ≡ at = omega arith in
    (omega arith, sym (ap (λ k. take at buffer ++ drop k buffer) here ∙ take-append-drop at buffer))

pub placed_then : (at next last : ℕ) (buffer between after xs ys : List ℕ) → Placed at buffer xs next between → Placed next between ys last after
    → Placed at buffer (xs ++ ys) last after
placed_then at next last buffer between after xs ys p q h =
    let size = length-append xs ys in
    let first = p (omega arith) in
    let same : length between ≡ length buffer = ap length first.1 ∙ length_written at xs buffer (omega arith) in
    let second = q (omega arith) in (
      omega arith,
      second.1 ∙ ap (λ k. written_at k ys between) first.0 ∙ ap (written_at (at + length xs) ys) first.1 ∙ written_both at xs ys buffer (omega arith),
    )
