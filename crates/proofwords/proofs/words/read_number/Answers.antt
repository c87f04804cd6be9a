use Rattle.std.proofs.Common.{◌≡◌, ◌<◌, ◌≤◌, ◌+◌, false, ◌⊎◌, length, get_or, drop, rules}
use Rattle.std.specs.Char.{is_ascii_digit}
use Rattle.std.proofs.lemmas.List.{get_or-take}
use Rattle.proofgrammar.proofs.Scans.{none_from_empty, none_from_zero, number_from_scan}
use Rattle.proofwords.proofs.Digits.{too_large, scanned}
use Rattle.proofwords.proofs.words.read_number.Goals as goal

pub returns-then-value-gt-LARGEST : goal.returns-then-value-gt-LARGEST
returns-then-value-gt-LARGEST c = search (rules, too_large c.args.text.now c.digits.length c.digits.value c.digits.invariant.0)

pub returns-in_default : goal.returns-in_default
returns-in_default c =
    let end : (length c.args.text.now ≤ c.digits.length) ⊎ (is_ascii_digit (get_or c.args.text.now c.digits.length 0) ≡ false) = search rules in
    let number = scanned c.args.text.now c.digits.length c.digits.value c.digits.invariant.0 end in
    let first = get_or-take c.digits.length c.args.text.now 0 0 in
    let some : length (drop c.digits.length c.args.text.now) < length c.args.text.now = search rules in
    let plain : get_or c.args.text.now 0 0 ≡ 48 → length c.args.text.now ≤ length (drop c.digits.length c.args.text.now) + 1 = search (rules, first) in
    rw c.split_at.ensures.back (number_from_scan c.args.text.now (drop c.digits.length c.args.text.now) c.digits.value number some plain)

pub returns-in-empty-default : goal.returns-in-empty-default
returns-in-empty-default c =
    let end : (length c.args.text.now ≤ c.digits.length) ⊎ (is_ascii_digit (get_or c.args.text.now c.digits.length 0) ≡ false) = search rules in
    let number = scanned c.args.text.now c.digits.length c.digits.value c.digits.invariant.0 end in
    let first = get_or-take c.digits.length c.args.text.now 0 0 in
    search (rules, first, none_from_empty c.args.text.now (drop c.digits.length c.args.text.now) c.digits.value number, none_from_zero c.args.text.now (drop c.digits.length c.args.text.now) c.digits.value number)
