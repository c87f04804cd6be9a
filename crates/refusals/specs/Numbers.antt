-- The number of each refusal: 1 to 7 for what was handed in, 11 to 18 for where the case stands.
use Rattle.std.specs.Prelude.{ℕ}
use Rattle.refusals.specs.declared.Refusal.{Refusal}
use Rattle.refusals.specs.declared.Refusal.TheVariants.{Record, Depth, Wire, Literal, Valuation, Buffer, Text, Stage, Full, Number, Absent, Slack, Loose, Space, Fails}

abbrev pub number : Refusal → ℕ
number Record = 1
number Depth = 2
number Wire = 3
number Literal = 4
number Valuation = 5
number Buffer = 6
number Text = 7
number Stage = 11
number Full = 12
number Number = 13
number Absent = 14
number Slack = 15
number Loose = 16
number Space = 17
number Fails = 18
