-- `put_node` meets its contract.
use Rattle.std.proofs.Common.{[], ◌∷◌, arith}
use Rattle.scan.specs.Text.{bytes}
use Rattle.row_lines.proofs.Lines.{column_put, rows_none, rows_on, node_put}
use Rattle.row_lines.proofs.put_node.Goals as goal

pub loop-column-init : goal.loop-column-init
loop-column-init c = rows_none (bytes "node" ∷ []) _ c.put.ensures

pub loop-column-preserved : goal.loop-column-preserved
loop-column-preserved c = rows_on (bytes "node" ∷ []) _ _ c.loop-column.invariant (column_put _ _ _ c.node_column.ensures c.put_spaced.ensures)

pub returns : goal.returns
returns c = node_put _ _ _ c.loop-column.invariant (omega arith) (omega arith) c.put-2.ensures
