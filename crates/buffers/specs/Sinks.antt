-- What the sinks do with the bytes that they take.
use Rattle.std.specs.Prelude.{◌≡◌, ℕ, ◌+◌, ◌^◌, ◌<◌, ◌≤◌, List, length}
use Rattle.buffers.specs.Buffers.{written_at}

-- A count goes up by the number of the bytes, if it fits.
abbrev pub Counted : ℕ → List ℕ → ℕ → Type 0
Counted count bytes after = count + length bytes < 2 ^ 64 → after ≡ count + length bytes

-- Bytes that fit at the place are written there, and the place behind them is the next.
abbrev pub Placed : ℕ → List ℕ → List ℕ → ℕ → List ℕ → Type 0
Placed at buffer bytes next after = at + length bytes ≤ length buffer → (next ≡ at + length bytes) × (after ≡ written_at at bytes buffer)
