use Rattle.std.proofs.Common.{◌≡◌, ◌≤◌, drop}
use Rattle.proofgrammar.proofs.Scans.{scan}
use Rattle.proofwords.proofs.words.read_number.Given as goal

abbrev pub invariant-digits : goal.invariant-digits
invariant-digits l = (scan l.value (drop l.length l.text) ≡ scan 0 l.text) × (l.value ≤ 2147483647) × (l.length ≡ l.byte-index)
