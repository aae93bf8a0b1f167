-- `node_boxes::reckon_at` meets its contract: the part of the text is the span's text.
use Rattle.node_boxes.proofs.Numbers.{reckoned_off, reckoned_in}
use Rattle.node_boxes.proofs.reckon_at.Goals as goal

pub returns-then-text-end : goal.returns-then-text-end
returns-then-text-end c = reckoned_off _ _ _ _ _ c.start_at-start.ensures c.length_at.ensures c.if-text-end.true

pub returns : goal.returns
returns c = reckoned_in _ _ _ _ _ c.start_at-start.ensures c.length_at.ensures _ c.if-text-end.false c.reckon.ensures
