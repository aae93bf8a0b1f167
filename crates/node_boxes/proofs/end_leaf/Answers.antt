-- `node_boxes::end_leaf` meets its contract: by whether the node is a leaf.
use mathlib.Core.Path.{sym, ◌∙◌}
use Rattle.node_boxes.proofs.end_leaf.Goals as goal

pub returns-then-is_leaf : goal.returns-then-is_leaf
returns-then-is_leaf c = rw (sym c.is_leaf.ensures ∙ c.if-is_leaf.true) c.close.ensures

pub returns-else-is_leaf : goal.returns-else-is_leaf
returns-else-is_leaf c = rw (sym c.is_leaf.ensures ∙ c.if-is_leaf.false)
