-- `walk::has_ended` meets its contract: the tests are the definition's.
use Rattle.walk.specs.Walk.{has_ended}
use Rattle.walk.proofs.has_ended.Goals as goal

pub returns-then-is_none : goal.returns-then-is_none
unfolding has_ended
returns-then-is_none c = rw (← c.wanting.ensures, c.if-is_none.ensures)

pub returns-else-is_none : goal.returns-else-is_none
unfolding has_ended
returns-else-is_none c = rw (← c.wanting.ensures, c.if-is_none.ensures, c.if-is_none.false)
