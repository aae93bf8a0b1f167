-- `put_row` meets its contract: its pieces are put one after the other.
use Rattle.printing.proofs.Buffers.{prints_then}
use Rattle.box_lines.proofs.put_row.Goals as goal

pub returns : goal.returns
returns c = prints_then c.put_heading.ensures (prints_then c.put_box.ensures c.put.ensures)
