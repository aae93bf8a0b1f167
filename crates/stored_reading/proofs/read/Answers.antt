-- `stored_reading::read` meets its contract: where every field was looked at, both slices are filled with what the fields tell.
use Rattle.stored_reading.proofs.Outcomes.{fields_good, leaves_as, right_nodes, right_numbers, fields_filled}
use Rattle.stored_reading.proofs.read.Goals as goal

pub fill_nodes-requires : goal.fill_nodes-requires
fill_nodes-requires c =
    let l = c.in-Ok.ensures in
    rw c.version_of-width.ensures (l.headed.narrow, rw (← c.node_room-node_room.ensures) l.node_rows, right_nodes (fields_good l.nodes l.numbers))

pub fill_numbers-requires : goal.fill_numbers-requires
fill_numbers-requires c =
    let l = c.in-Ok.ensures in
    (l.headed.short, rw (← c.number_room-number_room.ensures) l.number_rows, right_numbers (fields_good l.nodes l.numbers))

pub returns-in-Ok : goal.returns-in-Ok
returns-in-Ok c =
    let l = c.in-Ok.ensures in
    leaves_as (rw (c.node_room-node_room.ensures, c.number_room-number_room.ensures) at l.reading) (fields_filled (fields_good l.nodes l.numbers) _ _ c.node_room-node_room.ensures c.number_room-number_room.ensures l.node_rows l.number_rows (rw c.version_of-width.ensures at c.fill_nodes.ensures) c.fill_numbers.ensures)
