-- `shape::check` meets its contract: its two tests, one after the other.
use mathlib.Core.Path.{sym, ◌∙◌}
use Rattle.shape.proofs.Checks.{check_none, check_walk}
use Rattle.shape.proofs.check.Goals as goal

pub returns-then-are_rows : goal.returns-then-are_rows
returns-then-are_rows c = c.is_tree.ensures ∙ check_walk _ _ _ c.number_room.ensures (sym c.are_rows.ensures ∙ c.if-are_rows.true)

pub returns : goal.returns
returns c = check_none _ _ _ (sym c.are_rows.ensures ∙ c.if-are_rows.false)
