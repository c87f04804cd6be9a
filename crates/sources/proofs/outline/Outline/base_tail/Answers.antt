use Rattle.sources.proofs.Marks.{tail_mark, tail_bad, tail_past}
use Rattle.sources.proofs.outline.Outline.base_tail.Goals as goal

pub returns-then-j-rails : goal.returns-then-j-rails
returns-then-j-rails c = tail_mark _ _ _ _ c.if-j-rails.true

pub returns-then-j-rails-2 : goal.returns-then-j-rails-2
returns-then-j-rails-2 c = tail_bad _ _ _ _ c.if-j-rails-2.true

pub returns-else-j-rails-2 : goal.returns-else-j-rails-2
returns-else-j-rails-2 c = tail_past _ _ _ _ c.if-j-rails.false c.if-j-rails-2.false
