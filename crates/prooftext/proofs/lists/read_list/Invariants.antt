use Rattle.std.proofs.Common.{◌≡◌, ◌+◌, ◌≤◌, List, ◌++◌, length}
use Rattle.std.specs.List.{AllByRecursion as AllOf}
use Rattle.proofgrammar.specs.Grammar.{words}
use Rattle.prooftext.specs.Lists.{Held}
use Rattle.prooftext.proofs.lists.read_list.Given as goal

-- xs are the words read so far.
abbrev pub invariant-words : goal.invariant-words
invariant-words g l =
    (xs : List g.row.W.Denot) × AllOf g.W.Word.IsGood xs × (length xs ≡ l.count) × Held l.initial.row l.row xs
    × (l.text ≡ words g.W.Word.written xs ++ l.rest) × (l.count + length l.rest ≤ length l.text)

abbrev pub decreases-words : goal.decreases-words
decreases-words g l = length l.rest
