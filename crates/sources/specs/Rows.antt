-- What stands before the wires of a frame, counted once.
use Rattle.std.specs.Prelude.{◌≡◌, ℕ, zero, suc, ◌+◌, ◌≤◌, List, length, slice_index_or}
use Rattle.gates.specs.declared.gate.Gate.{Gate}
use Rattle.gates.specs.Gates.{is_register, rank}
use Rattle.formulas.specs.Drives.{driver}
use Rattle.wireclauses.specs.Sizes.{plain_size}
use Rattle.sources.specs.declared.rows.Before.{Before}

-- how many clauses the wires below w have in a frame, but for the registers
abbrev pub plain_before : List Gate → ℕ → ℕ
plain_before gs zero = 0
plain_before gs (suc w) = plain_before gs w + plain_size (driver gs w)

-- how many of the wires below w are registers
abbrev pub registers_before : List Gate → ℕ → ℕ
registers_before gs w = rank is_register gs w

-- the two counts at wire w
abbrev pub CountsBefore : List Gate → ℕ → Before → Type 0
CountsBefore gs w b = (b.plain ≡ plain_before gs w) × (b.registers ≡ registers_before gs w)

-- the row has the counts of each wire below n, and those before wire n
abbrev pub RowUpTo : List Before → List Gate → ℕ → Type 0
RowUpTo row gs n = (length row ≡ 257) × ((w : ℕ) (d : Before) → w ≤ n → CountsBefore gs w (slice_index_or row w d))

abbrev pub Row : List Before → List Gate → Type 0
Row row gs = RowUpTo row gs (length gs)
