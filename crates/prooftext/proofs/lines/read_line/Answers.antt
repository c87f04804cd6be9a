use Rattle.std.proofs.Common.{MatchOption, Some, None, Option, refl}
use Rattle.prooftext.specs.Rows.{rows}
use Rattle.prooftext.proofs.Bodies.{line_no_strike, line_no_body, line_strike, line_clause}
use Rattle.prooftext.proofs.lines.read_line.Goals as goal

-- what follows of either case of an answer
match_weaker : {T P R : Type 0} {Q S : T → Type 0} (o : Option T) → (P → R) → ((x : T) → Q x → S x) → MatchOption o P Q → MatchOption o R S
match_weaker None f g h = f h
match_weaker (Some x) f g h = g x h

pub returns-in_default-clause-read : goal.returns-in_default-clause-read
returns-in_default-clause-read c =
    match_weaker c.read_clause.result (line_no_body c.args.text.now c.in_ok-number.number c.in_ok-number.rest.now c.in_ok-number.ensures c.in_default.ensures)
    (λ r. line_clause c.args.text.now c.in_ok-number.number c.in_ok-number.rest.now c.in_ok-number.ensures
    (rows c.args.rows.now.literals.now c.args.rows.now.numbers.now) (rows c.read_clause.new.rows.literals.now c.read_clause.new.rows.numbers.now) r.0 r.1.now) c.read_clause.ensures.read

pub returns-in_err-count-clause-read : goal.returns-in_err-count-clause-read
returns-in_err-count-clause-read c =
    rw c.from_residual-in_err-count.ensures
    (line_no_strike c.args.text.now c.in_ok-number.number c.in_ok-number.rest.now c.in_ok-number.ensures c.in-Some.tail.now c.in-Some.ensures c.in_err-count.ensures)

pub returns-clause-read : goal.returns-clause-read
returns-clause-read c =
    line_strike c.args.text.now c.in_ok-number.number c.in_ok-number.rest.now c.in_ok-number.ensures c.in-Some.tail.now c.in-Some.ensures
    (rows c.args.rows.now.literals.now c.args.rows.now.numbers.now) (rows c.args.rows.now.literals.now c.read_strike.new.row) c.in_ok-count.count c.in_ok-count.rest.now refl c.in_ok-count.ensures
