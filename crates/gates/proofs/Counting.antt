-- Gates are counted one by one.
use Rattle.std.proofs.Common.{◌≡◌, ℕ, ◌+◌, ◌<◌, ◌≤◌, Bool, true, cond, List, length, get_or, take, count_by, ap, arith}
use Rattle.std.proofs.lemmas.List.{take-take}
use Rattle.std.proofs.lemmas.List.Sums.{sum_by_more, sum_by-take-le}
use Rattle.gates.specs.declared.gate.Gate.{Gate}
use Rattle.gates.specs.declared.gate.Gate.TheVariants.{Input}
use Rattle.gates.specs.Gates.{rank}

pub count_turn : (test : Gate → Bool) (gs : List Gate) (i : ℕ) → i < length gs → count_by test (take (i + 1) gs) ≡ count_by test (take i gs) + cond (test (get_or gs i Input)) 1 0
count_turn test gs i h = sum_by_more (λ g. cond (test g) 1 0) gs i Input h

-- A wire that passes the test has a lower rank than what stands behind it.
pub rank_up : (test : Gate → Bool) (gs : List Gate) (n w : ℕ) → w < n → n ≤ length gs → test (get_or gs w Input) ≡ true → rank test gs w < rank test gs n
rank_up test gs n w l h t =
    let turn = count_turn test gs w (omega arith) in
    let here : ◌≡◌ {A = ℕ} (cond (test (get_or gs w Input)) 1 0) 1 = ap {B = ℕ} (λ b. cond b 1 0) t in
    let front : rank test (take n gs) (w + 1) ≡ rank test gs (w + 1) = ap (count_by test) (take-take (w + 1) n gs (omega arith)) in
    let less = sum_by-take-le (λ g. cond (test g) 1 0) (take n gs) (w + 1) in
    omega arith
