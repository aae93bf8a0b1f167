-- `shape::are_rows` meets its contract: its two tests, one after the other.
use mathlib.Core.Path.{◌∙◌}
use Rattle.shape.proofs.Checks.{ragged, whole}
use Rattle.shape.proofs.are_rows.Goals as goal

pub returns-then-nodes-numbers : goal.returns-then-nodes-numbers
returns-then-nodes-numbers c = ragged _ _ _ c.if-nodes-numbers.true

pub returns : goal.returns
returns c = c.are_numbers.ensures ∙ whole _ _ _ c.if-nodes-numbers.false
