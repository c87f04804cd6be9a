-- What a closed board keeps is what closing asks.
use Rattle.std.proofs.Common.{◌≡◌, ◌≤◌, true, cond, ◌&&◌, ltb, leb, length, Some, None, vec_items, sym, ap, ◌∙◌, arith}
use Rattle.std.proofs.lemmas.Bool.{and_from, lt-ltb, le-leb}
use Rattle.refusals.specs.declared.Refusal.TheVariants as refusal
use Rattle.boards.specs.declared.board.Board.{Board}
use Rattle.gates.specs.Gates.{named}
use Rattle.boards.specs.Sheets.{sheet, closing}

pub board_few : (b : Board) → length (vec_items b.gates) ≤ 256
board_few b = omega (arith, b.gates.ok.0, b.few)

pub board_own : (b : Board) → named (length (vec_items b.gates)) (vec_items b.gates) ≡ true
board_own b = ap (λ n. named n (vec_items b.gates)) (sym b.gates.ok.0) ∙ b.own_wires

pub board_closes : (b : Board) → closing (sheet b) ≡ None
board_closes b =
    let n = length (vec_items b.gates) in
    let depth : (leb 1 b.depth && leb b.depth 8) ≡ true = and_from _ _ (le-leb 1 b.depth b.deep) (le-leb b.depth 8 b.shallow) in
    let wires : (ltb b.property n && named n (vec_items b.gates)) ≡ true =
    and_from _ _ (lt-ltb b.property n (omega (arith, b.gates.ok.0, b.own_property))) (board_own b) in
    ap (λ t. cond t (cond (ltb b.property n && named n (vec_items b.gates)) None (Some refusal.Wire)) (Some refusal.Depth)) depth
    ∙ ap (λ t. cond t None (Some refusal.Wire)) wires
