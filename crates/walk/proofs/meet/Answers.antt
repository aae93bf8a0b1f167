-- `walk::meet` meets its contract: the tests are the definition's.
use mathlib.Core.Path.{sym, ◌∙◌}
use Rattle.walk.specs.Walk.{meeting}
use Rattle.walk.proofs.meet.Goals as goal

pub returns-then-not-is_allowed : goal.returns-then-not-is_allowed
unfolding meeting
returns-then-not-is_allowed c = rw (sym c.is_allowed.ensures ∙ c.if-not-is_allowed.true)

pub returns-then-is_leaf : goal.returns-then-is_leaf
unfolding meeting
returns-then-is_leaf c = rw (sym c.is_allowed.ensures ∙ c.if-not-is_allowed.false, sym c.is_leaf.ensures ∙ c.if-is_leaf.true) c.pass.ensures

pub returns : goal.returns
unfolding meeting
returns c = rw (sym c.is_allowed.ensures ∙ c.if-not-is_allowed.false, sym c.is_leaf.ensures ∙ c.if-is_leaf.false) c.push.ensures
