-- `node_boxes::are_whole` meets its contract: the tests are the definition's.
use borrow.Author.Rules.{rules}
use Rattle.shape.specs.Store.{are_whole}
use Rattle.node_boxes.proofs.are_whole.Goals as goal

pub returns : goal.returns
unfolding are_whole
returns c = search rules
