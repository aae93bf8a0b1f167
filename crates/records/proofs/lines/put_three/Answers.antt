-- `put_three` meets its contract: its numbers are put one after the other.
use Rattle.printing.proofs.Buffers.{prints_then}
use Rattle.records.proofs.lines.put_three.Goals as goal

pub returns : goal.returns
returns c = prints_then c.put_number.ensures (prints_then c.put_spaced.ensures c.put_spaced-2.ensures)
