-- `put_line` meets its contract: its pieces are put one after the other.
use Rattle.printing.proofs.Buffers.{prints_then}
use Rattle.console.proofs.put_line.Goals as goal

pub returns : goal.returns
returns c = prints_then c.put.ensures (prints_then c.put_spaced.ensures (prints_then c.put_spaced-2.ensures c.put-2.ensures))
