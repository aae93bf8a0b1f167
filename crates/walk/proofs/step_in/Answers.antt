-- `walk::step_in` meets its contract: by whether a row is there, and what comes of it.
use native.Mathlib.Omega.{arith}
use Rattle.walk.proofs.Steps.{no_row, row_to, row_ill}
use Rattle.walk.proofs.step_in.Goals as goal

pub returns-in-Some : goal.returns-in-Some
returns-in-Some c = row_to _ _ _ c.told-frames _ _ c.requires _ c.visit_at-v.ensures (omega (arith, c.if-w-node_room.true, c.node_room.ensures)) (omega (arith, c.if-w-node_room.true)) _ _ c.enter.ensures _ c.in-Some.is

pub returns-in_default : goal.returns-in_default
returns-in_default c = row_ill _ _ _ c.told-frames _ _ c.requires _ c.visit_at-v.ensures (omega (arith, c.if-w-node_room.true, c.node_room.ensures)) (omega (arith, c.if-w-node_room.true)) _ _ c.enter.ensures c.in_default.is

pub returns-else-w-node_room : goal.returns-else-w-node_room
returns-else-w-node_room c = no_row _ _ _ c.told-frames _ _ c.requires (omega (arith, c.if-w-node_room.false, c.node_room.ensures))
