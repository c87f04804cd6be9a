-- How many clauses a wire has in a frame.
use Rattle.std.specs.Prelude.{ℕ, zero, suc, ◌+◌, Bool, cond}
use Rattle.values.specs.Sides.{Right, fixed, one, either, both, two_boths}
use Rattle.formulas.specs.Drives.{Drive, input, register, settled}

abbrev pub right_size : Right ℕ → ℕ
right_size (fixed t) = 1
right_size (one b) = 2
right_size (either b c) = 3
right_size (both b c) = 3
right_size (two_boths b c e f) = 6

-- but for registers
abbrev pub plain_size : Drive → ℕ
plain_size input = 2
plain_size (register y) = 0
plain_size (settled s) = 1 + right_size s.side0 + right_size s.side1

-- a register, in a frame with i before it
abbrev pub register_size : Bool → ℕ → ℕ
register_size starts zero = cond starts 3 2
register_size starts (suc i) = 4

-- 1 for a register
abbrev pub one_if : Drive → ℕ
one_if input = 0
one_if (register y) = 1
one_if (settled s) = 0
