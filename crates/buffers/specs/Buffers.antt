-- Writing into a lent buffer.
use Rattle.std.specs.Prelude.{ℕ, ◌+◌, List, ◌++◌, length, take, drop}

-- the buffer after the bytes were written at a place
abbrev pub written_at : ℕ → List ℕ → List ℕ → List ℕ
written_at at bytes buffer = take at buffer ++ (bytes ++ drop (at + length bytes) buffer)
