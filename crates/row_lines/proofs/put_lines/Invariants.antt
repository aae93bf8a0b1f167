-- What `row_lines::put_lines` keeps true in its loops: the lines of the rows so far are put.
use Rattle.std.proofs.Common.{◌++◌}
use Rattle.printing.specs.Printing.{Prints}
use Rattle.row_lines.specs.Lines.{answer_line, node_line, number_line, lines_of}
use Rattle.row_lines.proofs.put_lines.Given as goal

abbrev pub invariant-loop-row : goal.invariant-loop-row
invariant-loop-row l = Prints (answer_line l.fn.answer ++ lines_of (node_line l.nodes) l.row) l.fn.out l.out

abbrev pub invariant-loop-row-2 : goal.invariant-loop-row-2
invariant-loop-row-2 l = Prints ((answer_line l.fn.answer ++ lines_of (node_line l.nodes) l.fn.answer.nodes) ++ lines_of (number_line l.text l.numbers) l.row) l.fn.out l.out
