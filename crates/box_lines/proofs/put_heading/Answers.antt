-- `put_heading` meets its contract: its pieces are put one after the other.
use Rattle.printing.proofs.Buffers.{prints_then}
use Rattle.box_lines.proofs.put_heading.Goals as goal

pub returns : goal.returns
returns c = prints_then c.put_number.ensures c.put_spaced.ensures
