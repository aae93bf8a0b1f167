-- `store::node_column` meets its contract: the column is one of the row's, or it is 0.
use borrow.Author.Tests.{lt-ltb, le-ltb}
use Rattle.store.specs.Rows.{node_column}
use Rattle.store.proofs.node_column.Goals as goal

pub returns-then-column-lt-NODE_WIDTH : goal.returns-then-column-lt-NODE_WIDTH
unfolding node_column
returns-then-column-lt-NODE_WIDTH c = rw (lt-ltb _ _ c.if-column-lt-NODE_WIDTH.true) c.cell_at.ensures

pub returns-else-column-lt-NODE_WIDTH : goal.returns-else-column-lt-NODE_WIDTH
unfolding node_column
returns-else-column-lt-NODE_WIDTH c = rw (le-ltb _ _ c.if-column-lt-NODE_WIDTH.false)
