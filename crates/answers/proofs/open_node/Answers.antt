-- `answers::open_node` meets its contract: the row was put in both ways, and the test of the room is the one of the definition.
use Rattle.answers.proofs.Parts.{row_put, row_full}
use Rattle.answers.proofs.open_node.Goals as goal

pub returns-then-row-room : goal.returns-then-row-room
returns-then-row-room c = (row_put _ _ _ (rw c.node_room-room.ensures at c.if-row-room.true), c.open_row.ensures)

pub returns : goal.returns
returns c = (rw c.new.ensures (row_full _ _ _ (rw c.node_room-room.ensures at c.if-row-room.false)), c.open_row.ensures)
