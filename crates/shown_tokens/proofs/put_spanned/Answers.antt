-- `put_spanned` meets its contract: its pieces are put one after the other.
use Rattle.printing.proofs.Buffers.{prints_then}
use Rattle.shown_tokens.proofs.put_spanned.Goals as goal

pub returns : goal.returns
returns c = prints_then c.put_placed.ensures (prints_then c.put_placed-2.ensures c.put_placed-3.ensures)
