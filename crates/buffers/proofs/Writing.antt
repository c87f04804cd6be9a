-- What a write leaves of a buffer.
use Rattle.std.proofs.Common.{◌≡◌, ℕ, ◌+◌, ◌-◌, List, ◌++◌, length, take, sym, ap, ◌∙◌, arith}
use borrow.Rule.Slice.PartMut.{put_mid}
use Rattle.std.proofs.lemmas.List.{drop-drop, drop_all, take_at, append-nil}
use Rattle.buffers.specs.Buffers.{written_at}

-- what copying the bytes to a place leaves
pub put_is : (at : ℕ) (buffer part bytes : List ℕ) → part ≡ bytes → put_mid at ((at + length bytes) - at) buffer part ≡ written_at at bytes buffer
put_is at buffer part bytes e =
    let size : (at + length bytes) - at ≡ length bytes = omega arith in
    rw (e, size) (ap (λ xs. take at buffer ++ (bytes ++ xs)) (drop-drop (length bytes) at buffer))

-- A buffer of the text's own length holds the text alone.
pub written_whole : (text buffer : List ℕ) → length buffer ≡ length text → written_at 0 text buffer ≡ text
written_whole text buffer e = ap (λ xs. text ++ xs) (drop_all (0 + length text) buffer (omega arith)) ∙ append-nil text

-- What is taken of that buffer, whatever stands behind it.
pub taken_whole : (text buffer after rest : List ℕ) (n : ℕ) → length buffer ≡ length text → n ≡ length text → after ≡ written_at 0 text buffer → take n (after ++ rest) ≡ text
taken_whole text buffer after rest n e size w =
    let is = w ∙ written_whole text buffer e in
    take_at after rest n (ap length is ∙ sym size) ∙ is
