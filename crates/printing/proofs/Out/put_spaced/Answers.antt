-- `Out::put_spaced` meets its contract: a space is put, and then a number.
use Rattle.printing.proofs.Buffers.{prints_then}
use Rattle.printing.proofs.Out.put_spaced.Goals as goal

pub returns : goal.returns
returns c = prints_then c.put.ensures c.put_number.ensures
