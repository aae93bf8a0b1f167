-- `node_boxes::too_small` meets its contract: by whether the store is well formed.
use mathlib.Core.Path.{sym, ◌∙◌}
use Rattle.node_boxes.proofs.Whole.{ill_refused, small_refused}
use Rattle.node_boxes.proofs.too_small.Goals as goal

pub returns-then-check : goal.returns-then-check
returns-then-check c = small_refused _ _ _ _ _ _ (sym c.check.ensures ∙ c.if-check.true) c.requires c.refuse.ensures

pub returns : goal.returns
returns c = ill_refused _ _ _ _ _ _ (sym c.check.ensures ∙ c.if-check.false) c.refuse-2.ensures
