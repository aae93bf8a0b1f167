-- `put_lines` meets its contract: the answer's line, the nodes' and the numbers' are put one after the other.
use Rattle.std.proofs.Common.{◌++◌, arith}
use Rattle.row_lines.specs.Lines.{answer_line, node_line, number_line, lines_of}
use Rattle.row_lines.proofs.Lines.{rows_none, rows_on, rows_all, lines_printed}
use Rattle.row_lines.proofs.put_lines.Goals as goal

pub loop-row-init : goal.loop-row-init
loop-row-init c = rows_none _ (node_line c.args.nodes.now) c.put_answer.ensures

pub loop-row-preserved : goal.loop-row-preserved
loop-row-preserved c = rows_on (answer_line c.args.answer) _ _ c.loop-row.invariant c.put_node.ensures

pub loop-row-2-init : goal.loop-row-2-init
loop-row-2-init c = rows_none _ (number_line c.args.text.now c.args.numbers.now) (rows_all _ (node_line c.args.nodes.now) _ _ c.loop-row.invariant (omega arith) (omega arith))

pub loop-row-2-preserved : goal.loop-row-2-preserved
loop-row-2-preserved c = rows_on (answer_line c.args.answer ++ lines_of (node_line c.args.nodes.now) c.args.answer.nodes) _ _ c.loop-row-2.invariant c.put_number.ensures

pub returns : goal.returns
returns c = lines_printed c.args.answer _ c.args.nodes.now _ _ c.loop-row-2.invariant (omega arith) (omega arith)
