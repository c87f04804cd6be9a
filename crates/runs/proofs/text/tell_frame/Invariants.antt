use Rattle.std.proofs.Common.{◌≡◌, ◌++◌, take, string_bytes}
use Rattle.std.specs.List.{flat_map}
use Rattle.runs.specs.Text.{spaced}
use Rattle.runs.proofs.text.tell_frame.Given as goal

abbrev pub invariant-loop-value : goal.invariant-loop-value
invariant-loop-value l = string_bytes l.line ≡ string_bytes l.initial.line ++ flat_map spaced (take l.value-index l.values)
