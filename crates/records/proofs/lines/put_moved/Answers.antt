-- `put_moved` meets its contract: its pieces are put one after the other.
use Rattle.records.proofs.Pieces.{moved_put}
use Rattle.records.proofs.lines.put_moved.Goals as goal

pub returns : goal.returns
returns c = moved_put c.args.read c.args.length c.args.output.now c.args.nodes.now c.args.numbers.now c.node_places-used.ensures.value c.number_places-spans.ensures.value c.bytes_left.ensures.value c.places_left.ensures.value c.places_left-2.ensures.value c.put_move_numbers.ensures c.put.ensures c.put_bytes.ensures c.put_rows.ensures c.put_rows-2.ensures c.put_left_over.ensures
