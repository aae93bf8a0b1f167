-- What `box_lines::put_boxes` keeps true in its loop: the lines of the rows so far are put.
use Rattle.std.proofs.Common.{[], ◌++◌}
use Rattle.printing.specs.Printing.{Prints}
use Rattle.row_lines.specs.Lines.{lines_of}
use Rattle.box_lines.specs.Lines.{box_line}
use Rattle.box_lines.proofs.put_boxes.Given as goal

abbrev pub invariant-loop-row : goal.invariant-loop-row
invariant-loop-row l = Prints ([] ++ lines_of (box_line l.nodes l.table) l.row) l.fn.out l.out
