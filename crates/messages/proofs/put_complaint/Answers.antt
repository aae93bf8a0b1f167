-- `put_complaint` meets its contract: its pieces are put one after the other.
use Rattle.printing.proofs.Buffers.{prints_then}
use Rattle.messages.proofs.put_complaint.Goals as goal

pub returns : goal.returns
returns c = prints_then c.put.ensures (prints_then c.put-2.ensures (prints_then c.put_number.ensures (prints_then c.put-3.ensures (prints_then c.put_number-2.ensures (prints_then c.put-4.ensures c.put_told.ensures)))))
