-- `walk::last` meets its contract: the test is the definition's.
use Rattle.walk.specs.Walk.{last_met}
use Rattle.walk.proofs.last.Goals as goal

pub returns-then-node_room-w : goal.returns-then-node_room-w
unfolding last_met
returns-then-node_room-w c = rw (← c.node_room.ensures, c.if-node_room-w.true)

pub returns : goal.returns
unfolding last_met
returns c = rw (← c.node_room.ensures, c.if-node_room-w.false)
