-- `shown` answers what was found by the step that is asked for.
use Rattle.tokens.specs.Ways.{shown_of}
use Rattle.tokens.proofs.ways.shown.Goals as goal

pub returns-in-First : goal.returns-in-First
unfolding shown_of
returns-in-First c = rw c.in-First.is

pub returns-in-Second : goal.returns-in-Second
unfolding shown_of
returns-in-Second c = rw c.in-Second.is

pub returns-in-Taken : goal.returns-in-Taken
unfolding shown_of
returns-in-Taken c = rw c.in-Taken.is
