use Rattle.std.proofs.Common.{refl, ◌∙◌, arith, rules}
use Rattle.std.proofs.lemmas.List.{take_rest}
use Rattle.prooftext.specs.Rows.{rows}
use Rattle.prooftext.specs.Readings.{state}
use Rattle.prooftext.specs.Lent.{held}
use Rattle.prooftext.proofs.Outcomes.{read_end, read_other, read_short, read_line, read_of, again_of}
use Rattle.prooftext.proofs.reader.Reader.next.Goals as goal

pub returns-then-self : goal.returns-then-self
returns-then-self c =
    let me = c.args.self.now in
    let before = state me.place (rows c.args.literals.now c.args.numbers.now) in
    let zeros = held c.clear.new.self in
    let both = read_end me.text.now before zeros (c.clear.ensures.literals, c.clear.ensures.numbers) (omega (arith, c.if-self.true)) in
    record { text = refl; read = read_of me.text.now before _ _ _ _ both (search rules); again = again_of me.text.now before _ _ _ _ both (search rules) }

pub returns-in_default : goal.returns-in_default
returns-in_default c =
    let me = c.args.self.now in
    let before = state me.place (rows c.args.literals.now c.args.numbers.now) in
    let zeros = held c.clear.new.self in
    let after = held c.read_line.new.rows in
    let left = held c.clear-in_default.new.self in
    let both = read_other me.text.now before zeros after (c.clear.ensures.literals, c.clear.ensures.numbers) (c.read_line.ensures.same.2 ∙ c.clear.ensures.same.2)
    (c.read_line.ensures.same.3 ∙ c.clear.ensures.same.3) left (c.clear-in_default.ensures.literals, c.clear-in_default.ensures.numbers) (omega (arith, c.if-self.false))
    (rw take_rest at c.in_default.ensures.read) in
    record { text = refl; read = read_of me.text.now before _ _ _ _ both (search rules); again = again_of me.text.now before _ _ _ _ both (search rules) }

pub returns-then-not-has_room : goal.returns-then-not-has_room
returns-then-not-has_room c =
    let me = c.args.self.now in
    let before = state me.place (rows c.args.literals.now c.args.numbers.now) in
    let zeros = held c.clear.new.self in
    let after = held c.read_line.new.rows in
    let left = held c.clear-then-not-has_room.new.self in
    let both = read_short me.text.now before zeros after (c.clear.ensures.literals, c.clear.ensures.numbers) (c.read_line.ensures.same.2 ∙ c.clear.ensures.same.2)
    (c.read_line.ensures.same.3 ∙ c.clear.ensures.same.3) c.in-Some.item c.in-Some.rest.now (rw take_rest at c.in-Some.ensures.read) c.has_room.result c.has_room.ensures
    left (c.clear-then-not-has_room.ensures.literals, c.clear-then-not-has_room.ensures.numbers) c.if-not-has_room.true in
    record { text = refl; read = read_of me.text.now before _ _ _ _ both (search rules); again = again_of me.text.now before _ _ _ _ both (search rules) }

pub returns : goal.returns
returns c =
    let me = c.args.self.now in
    let before = state me.place (rows c.args.literals.now c.args.numbers.now) in
    let zeros = held c.clear.new.self in
    let after = held c.read_line.new.rows in
    let both = read_line me.text.now before zeros after (c.clear.ensures.literals, c.clear.ensures.numbers) (c.read_line.ensures.same.2 ∙ c.clear.ensures.same.2)
    (c.read_line.ensures.same.3 ∙ c.clear.ensures.same.3) c.in-Some.item c.in-Some.rest.now (rw take_rest at c.in-Some.ensures.read) c.has_room.result c.has_room.ensures
    (omega (arith, c.if-self.false)) c.if-not-has_room.false in
    record { text = refl; read = read_of me.text.now before _ _ _ _ both (search rules); again = again_of me.text.now before _ _ _ _ both (search rules) }
