use Rattle.wireclauses.proofs.Wires.{turn_rail0, turn_rail1}
use Rattle.wireclauses.proofs.frame.Frame.settled.Goals as goal

pub returns-then-j-size : goal.returns-then-j-size
returns-then-j-size c = turn_rail0 _ _ _ _ _ _ _ _ _ c.rail0-a.ensures.is c.right_size-size.ensures.is c.if-j-size.true c.equation.ensures

pub returns-else-j-size : goal.returns-else-j-size
returns-else-j-size c = turn_rail1 _ _ _ _ _ _ _ _ _ c.rail0-a.ensures.is c.right_size-size.ensures.is c.if-j-size.false c.equation-else-j-size.ensures
