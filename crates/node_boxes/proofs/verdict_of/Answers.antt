-- `node_boxes::verdict_of` meets its contract: the test is the definition's.
use Rattle.node_boxes.proofs.verdict_of.Goals as goal

pub returns-then-good : goal.returns-then-good
returns-then-good c = rw c.if-good.true

pub returns : goal.returns
returns c = rw c.if-good.false
