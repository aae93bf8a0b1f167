-- `stored_writing::put_rows` meets its contract: the head is put, and then the nodes.
use Rattle.pen.proofs.Puts.{emits_then}
use Rattle.stored_writing.proofs.put_rows.Goals as goal

pub returns : goal.returns
returns c = emits_then (rw (c.node_room.ensures, c.number_room.ensures) at c.put_head-p.ensures) (rw c.version_of.ensures at c.put_nodes.ensures)
