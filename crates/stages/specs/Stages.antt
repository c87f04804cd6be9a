-- Which stage takes which event, and where it leads.
use Rattle.std.specs.Prelude.{ℕ, List, Some, None, codes, Option}
use Rattle.stages.specs.declared.Event.{Event}
use Rattle.stages.specs.declared.Event.TheVariants.{Add, Close, Line, EmptyLine, Strike, Pass, Show}
use Rattle.stages.specs.declared.Stage.{Stage}
use Rattle.stages.specs.declared.Stage.TheVariants.{Draw, Base, BaseDone, Step, Safe, Shown}

abbrev pub after : Stage → Event → Option Stage
after Draw Add = Some Draw
after Draw Close = Some Base
after Draw Line = None
after Draw EmptyLine = None
after Draw Strike = None
after Draw Pass = None
after Draw Show = None
after Base Add = None
after Base Close = None
after Base Line = Some Base
after Base EmptyLine = Some BaseDone
after Base Strike = Some Base
after Base Pass = None
after Base Show = Some Shown
after BaseDone Add = None
after BaseDone Close = None
after BaseDone Line = None
after BaseDone EmptyLine = None
after BaseDone Strike = None
after BaseDone Pass = Some Step
after BaseDone Show = None
after Step Add = None
after Step Close = None
after Step Line = Some Step
after Step EmptyLine = Some Safe
after Step Strike = Some Step
after Step Pass = None
after Step Show = None
after Safe e = None
after Shown e = None

-- the stage as it is written in a report
abbrev pub stage_name : Stage → List ℕ
stage_name Draw = codes "DRAW"
stage_name Base = codes "BASE"
stage_name BaseDone = codes "BASE DONE"
stage_name Step = codes "STEP"
stage_name Safe = codes "SAFE"
stage_name Shown = codes "SHOWN"
