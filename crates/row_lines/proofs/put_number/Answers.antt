-- `put_number` meets its contract: its pieces are put one after the other.
use Rattle.row_lines.proofs.Lines.{number_put}
use Rattle.row_lines.proofs.put_number.Goals as goal

pub returns : goal.returns
returns c = number_put _ _ _ c.start_at.ensures c.length_at.ensures c.min-start.ensures c.min-len.ensures c.put.ensures c.put-2.ensures c.put-3.ensures
