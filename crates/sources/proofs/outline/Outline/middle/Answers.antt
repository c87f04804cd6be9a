use Rattle.std.proofs.Common.{arith}
use Rattle.sources.proofs.Between.{middle_mark, middle_bad}
use Rattle.sources.proofs.outline.Outline.middle.Goals as goal

pub returns-then-j-self : goal.returns-then-j-self
returns-then-j-self c = middle_mark c.args.self.wires c.args.self.property c.args.self.depth c.args.j c.if-j-self.true

pub returns-else-j-self : goal.returns-else-j-self
returns-else-j-self c = middle_bad c.args.self.wires c.args.self.property c.args.self.depth c.args.j (omega arith) c.if-j-self.false
