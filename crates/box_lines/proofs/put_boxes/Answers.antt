-- `put_boxes` meets its contract.
use Rattle.std.proofs.Common.{[], arith}
use Rattle.printing.proofs.Buffers.{prints_none}
use Rattle.row_lines.proofs.Lines.{rows_none, rows_on}
use Rattle.box_lines.specs.Lines.{box_line}
use Rattle.box_lines.proofs.Pieces.{line_put, lines_all}
use Rattle.box_lines.proofs.put_boxes.Goals as goal

pub loop-row-init : goal.loop-row-init
loop-row-init c = rows_none [] (box_line c.args.nodes.now c.args.table.now) (prints_none _)

pub loop-row-preserved : goal.loop-row-preserved
loop-row-preserved c = rows_on [] (box_line c.args.nodes.now c.args.table.now) _ c.loop-row.invariant (line_put c.args.nodes.now c.args.table.now _ c.kind_at.ensures c.put_row.ensures)

pub returns : goal.returns
returns c = lines_all c.args.nodes.now c.args.table.now _ _ _ c.min-last.ensures (omega arith) (omega arith) c.loop-row.invariant
