-- `walk::step` meets its contract: by what comes next.
use mathlib.Core.Path.{sym, ◌∙◌}
use Rattle.walk.specs.Walk.{walk_step}
use Rattle.walk.proofs.step.Goals as goal

pub step_in-requires : goal.step_in-requires
step_in-requires c = sym c.next-coming.ensures ∙ c.in-Child.is

pub returns-in-Child : goal.returns-in-Child
returns-in-Child c = c.step_in.ensures

pub returns-in-End : goal.returns-in-End
unfolding walk_step
returns-in-End c = rw (sym c.next-coming.ensures ∙ c.in-End.is)

pub returns-in-Last : goal.returns-in-Last
unfolding walk_step
returns-in-Last c = rw (sym c.next-coming.ensures ∙ c.in-Last.is, c.last.ensures)
