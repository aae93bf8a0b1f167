-- `put_placed` meets its contract: its pieces are put one after the other.
use Rattle.printing.proofs.Buffers.{prints_then}
use Rattle.shown_tokens.proofs.put_placed.Goals as goal

pub returns : goal.returns
returns c = prints_then c.put.ensures c.put_number.ensures
