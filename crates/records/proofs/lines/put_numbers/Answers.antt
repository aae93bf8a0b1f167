-- `put_numbers` meets its contract: its numbers are put one after the other.
use Rattle.printing.proofs.Buffers.{prints_then}
use Rattle.records.proofs.lines.put_numbers.Goals as goal

pub returns : goal.returns
returns c = prints_then c.put_three.ensures c.put_spaced.ensures
