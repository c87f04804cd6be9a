use Rattle.boards.specs.Sheets.{sheet}
use Rattle.sources.proofs.Parts.{counted}
use Rattle.sources.proofs.formula.Formula.clauses.Goals as goal

pub returns-clause-is : goal.returns-clause-is
returns-clause-is c = let f = c.args.self.now in counted f.kind (sheet f.board) _ _ c.frames_size.ensures.is c.tail_size.ensures.is
