-- What is printed of a run.
use Rattle.std.specs.Prelude.{ℕ, List, [], ◌∷◌, ◌++◌, codes, decimal}
use Rattle.std.specs.List.{flat_map}
use Rattle.values.specs.declared.single.Value.{Value}
use Rattle.values.specs.Single.{letter}
use Rattle.runs.specs.declared.trace.Verdict.{Verdict}
use Rattle.runs.specs.declared.trace.Verdict.TheVariants.{Bad, Good}

-- a space, and then the letter
abbrev pub spaced : Value → List ℕ
spaced x = 32 ∷ letter x ∷ []

-- `frame 1: 1 1 0 U`
abbrev pub frame_line : ℕ → List Value → List ℕ
frame_line k values = codes "frame " ++ (decimal k ++ (codes ":" ++ flat_map spaced values))

-- `board 9 0`: the number of wires, and of registers
abbrev pub board_line : ℕ → ℕ → List ℕ
board_line n m = codes "board " ++ (decimal n ++ (codes " " ++ decimal m))

-- `bad 1 3`: the frame and its wire; or `good 2`: the number of frames
abbrev pub verdict_line : Verdict → List ℕ
verdict_line (Bad frame wire) = codes "bad " ++ (decimal frame ++ (codes " " ++ decimal wire))
verdict_line (Good frames) = codes "good " ++ decimal frames
