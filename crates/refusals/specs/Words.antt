-- Each refusal in words.
use Rattle.std.specs.Prelude.{ℕ, List, codes}
use Rattle.refusals.specs.declared.Failure.{Failure}
use Rattle.refusals.specs.declared.Failure.TheVariants.{Refused, Memory}
use Rattle.refusals.specs.declared.Refusal.{Refusal}
use Rattle.refusals.specs.declared.Refusal.TheVariants.{Record, Depth, Wire, Literal, Valuation, Buffer, Text, Stage, Full, Number, Absent, Slack, Loose, Space, Fails}

abbrev pub words : Refusal → List ℕ
words Record = codes "not exactly one record, or a gate file of another form"
words Depth = codes "the depth is not 1 to 8"
words Wire = codes "the property or a named wire is not below the number of wires"
words Literal = codes "a literal is 0 or names no variable"
words Valuation = codes "not exactly one byte of 0 or 1 for each variable or input"
words Buffer = codes "a buffer is shorter than needed"
words Text = codes "the text does not begin with one proof line"
words Stage = codes "the stage does not take this call"
words Full = codes "the board has 256 wires already"
words Number = codes "the line's number is not above the last, or above 2147483647"
words Absent = codes "there is no clause of that number"
words Slack = codes "a hint neither conflicts nor forces one literal"
words Loose = codes "the hints end without a conflict"
words Space = codes "the shelf has no room for the line"
words Fails = codes "some clause has no true literal"

abbrev pub failure_words : Failure → List ℕ
failure_words (Refused e) = words e
failure_words Memory = codes "there is no memory for it"
