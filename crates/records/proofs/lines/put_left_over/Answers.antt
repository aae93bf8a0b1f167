-- `put_left_over` meets its contract: its pieces are put one after the other.
use Rattle.printing.proofs.Buffers.{prints_then}
use Rattle.records.proofs.lines.put_left_over.Goals as goal

pub returns : goal.returns
returns c = prints_then c.put.ensures (prints_then c.put_spaced.ensures c.put-2.ensures)
