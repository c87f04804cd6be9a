use Rattle.std.proofs.Common.{arith, rules}
use Rattle.prooftext.specs.Lists.{Held}
use Rattle.prooftext.proofs.Listing.{list_none, list_broken, list_turn, list_less}
use Rattle.prooftext.proofs.lists.read_list.Goals as goal

pub returns-in_err-word : goal.returns-in_err-word
returns-in_err-word g c =
    let i = c.words.invariant in
    rw c.from_residual.ensures (list_none g.W.Word.kind c.args.text.now c.words.rest.now i.0 i.1 i.4 c.in_err-word.ensures)

pub returns-in_err-rest : goal.returns-in_err-rest
returns-in_err-rest g c =
    let i = c.words.invariant in
    rw c.from_residual-in_err-rest.ensures
    (list_broken g.W.Word.kind c.args.text.now c.words.rest.now i.0 i.1 i.4 c.in_ok-word.word c.in_ok-word.behind.now c.in_ok-word.ensures (search rules) c.in_err-rest.ensures)

pub words-preserved : goal.words-preserved
words-preserved g c =
    let i = c.words.invariant in
    let less = list_less g.W.Word.kind c.args.text.now c.words.rest.now i.0 i.1 i.4 c.in_ok-word.word c.in_ok-word.behind.now c.in_ok-word.ensures c.in_ok-rest.rest.now c.in_ok-rest.ensures in
    let turn =
    list_turn g.W.Word.kind c.args.text.now c.words.rest.now i.0 i.1 i.4 c.in_ok-word.word c.in_ok-word.behind.now c.in_ok-word.ensures c.in_ok-rest.rest.now c.in_ok-rest.ensures
    c.args.row.now c.words.row c.words.count i.3 i.2 (search rules) in
    let after : Held c.args.row.now c.put.new.row turn.0 = rw c.put.ensures turn.3 in
    (turn.0, turn.1, turn.2, after, turn.4, omega (arith, i.5, less))
