-- `put_written` meets its contract: its pieces are put one after the other.
use Rattle.records.proofs.Pieces.{written_put}
use Rattle.records.proofs.lines.put_written.Goals as goal

pub returns : goal.returns
returns c = written_put c.args.answer c.args.output.now c.bytes_left.ensures.value c.put_three.ensures c.put.ensures c.put_bytes.ensures c.put_left_over.ensures
