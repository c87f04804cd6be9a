-- Lines and strikes that are judged one after the other while a formula is refuted.
use Rattle.std.specs.Prelude.{◌≡◌, ℕ, ◌<◌, ◌≤◌, ◌≢◌, ◌⊎◌, List, [], ◌∷◌, map, length, None, Ok}
use Rattle.std.specs.List.{AllByRecursion as AllOf}
use Rattle.clauses.specs.Clauses.{Clause, variable, numbered}
use Rattle.hints.specs.Hints.{Verdict}
use Rattle.refutations.specs.Refuting.{Item, line, strike}
use Rattle.refuting.specs.Judging.{Terms, terms, Progress, progress, Judged, judge_line, judge_strike}
use Rattle.shelf.specs.Lines.{Lines, Costs, insert, remove, total}

-- ---- a list of items

-- An item for which so many marks are lent.
abbrev pub judge_item : Terms → Progress → ℕ → Item → Judged
judge_item t s marks (line n ls hints) = judge_line t s marks n ls hints
judge_item t s marks (strike n) = judge_strike t s n

-- Items, each with the number of marks that are lent for it.
abbrev pub Offers : Type 0
Offers = List (ℕ × Item)

-- The answers, and how far it has come at the end.
abbrev pub judge_items : Terms → Progress → Offers → List Verdict × Progress
judge_items t s [] = ([], s)
judge_items t s (x ∷ xs) =
    let r = judge_item t s x.0 x.1 in
    let later = judge_items t r.1 xs in
    (r.0 ∷ later.0, later.1)

-- The same number of marks for every item.
abbrev pub offered : ℕ → List Item → Offers
offered marks items = map (λ item. (marks, item)) items

-- ---- a formula over the variables 1 to V

abbrev pub terms_of : ℕ → List Clause → ℕ → Costs → Terms
terms_of V F capacity cost = terms V (length F) (numbered F) capacity cost

abbrev pub start : List Clause → Progress
start F = progress (length F) []

abbrev pub judged : ℕ → List Clause → ℕ → Costs → Offers → List Verdict × Progress
judged V F capacity cost offers = judge_items (terms_of V F capacity cost) (start F) offers

-- ---- what is said of a list

-- Its last item is the empty line, and no other is.
abbrev pub EndsEmpty : List Item → Type 0
EndsEmpty [] = ⊥
EndsEmpty (strike n ∷ items) = EndsEmpty items
EndsEmpty (line n [] hints ∷ []) = Unit {0}
EndsEmpty (line n [] hints ∷ (item ∷ items)) = ⊥
EndsEmpty (line n (l ∷ ls) hints ∷ items) = EndsEmpty items

-- Its strikes are of numbers above C.
abbrev pub StrikesAbove : ℕ → List Item → Type 0
StrikesAbove C [] = Unit {0}
StrikesAbove C (line n ls hints ∷ items) = StrikesAbove C items
StrikesAbove C (strike n ∷ items) = (C < n) × StrikesAbove C items

-- The numbers of its lines, and of the variables in them, fit into 32 bits with a sign.
abbrev pub NumbersFit : List Item → Type 0
NumbersFit [] = Unit {0}
NumbersFit (line n ls hints ∷ items) = (n ≤ 2147483647) × AllOf (λ l. variable l ≤ 2147483647) ls × NumbersFit items
NumbersFit (strike n ∷ items) = NumbersFit items

-- Its costs fit, where `lines` are those not yet struck: every line with literals has a cost, and after each of these the lines
-- not yet struck cost together at most the capacity.
abbrev pub CostsFit : ℕ → Costs → Lines → List Item → Type 0
CostsFit capacity cost lines [] = Unit {0}
CostsFit capacity cost lines (line n [] hints ∷ items) = CostsFit capacity cost lines items
CostsFit capacity cost lines (line n (l ∷ ls) hints ∷ items) =
    (cost (length (l ∷ ls)) ≢ None)
    × (total cost (insert n (l ∷ ls) lines) ≤ capacity)
    × CostsFit capacity cost (insert n (l ∷ ls) lines) items
CostsFit capacity cost lines (strike n ∷ items) = CostsFit capacity cost (remove n lines) items

abbrev pub AllAccepted : List Verdict → Type 0
AllAccepted answers = AllOf (λ a. a ≡ Ok tt) answers

-- Some item is the empty line, and is accepted.
abbrev pub EmptyAccepted : Offers → List Verdict → Type 0
EmptyAccepted [] answers = ⊥
EmptyAccepted (x ∷ xs) [] = ⊥
EmptyAccepted (x ∷ xs) (a ∷ answers) = ((n : ℕ) × (hints : List ℕ) × (x.1 ≡ line n [] hints) × (a ≡ Ok tt)) ⊎ EmptyAccepted xs answers
