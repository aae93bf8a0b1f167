-- `node_boxes::or_other` meets its contract: the test is the definition's.
use borrow.Author.Tests.{eq-eqb, ne_eqb}
use Rattle.node_boxes.proofs.or_other.Goals as goal

pub returns-then-found-ne0 : goal.returns-then-found-ne0
returns-then-found-ne0 c = rw (ne_eqb _ _ c.if-found-ne0.true)

pub returns : goal.returns
returns c = rw (eq-eqb _ _ c.if-found-ne0.false)
