-- `nodes::is_allowed` meets its contract: the test is the definition's.
use mathlib.Core.Path.{sym, ◌∙◌}
use Rattle.nodes.specs.Nodes.{is_allowed}
use Rattle.nodes.proofs.is_allowed.Goals as goal

pub returns-then-is_free : goal.returns-then-is_free
unfolding is_allowed
returns-then-is_free c = rw (sym c.is_free.ensures ∙ c.if-is_free.true) c.is_geometry.ensures

pub returns : goal.returns
unfolding is_allowed
returns c = rw (sym c.is_free.ensures ∙ c.if-is_free.false) c.is_child.ensures
