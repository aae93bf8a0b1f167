-- What `row_lines::put_node` keeps true in its loop: the numbers of the columns so far are put.
use Rattle.std.proofs.Common.{[], ◌∷◌, ◌++◌}
use Rattle.scan.specs.Text.{bytes}
use Rattle.printing.specs.Printing.{Prints}
use Rattle.row_lines.specs.Lines.{lines_of}
use Rattle.row_lines.proofs.Lines.{column_in}
use Rattle.row_lines.proofs.put_node.Given as goal

abbrev pub invariant-loop-column : goal.invariant-loop-column
invariant-loop-column l = Prints ((bytes "node" ∷ []) ++ lines_of (column_in l.nodes l.row) l.column) l.fn.out l.out
