-- `put_read` meets its contract: its pieces are put one after the other.
use Rattle.records.proofs.Pieces.{read_put}
use Rattle.records.proofs.lines.put_read.Goals as goal

pub returns : goal.returns
returns c = read_put c.args.answer c.args.nodes.now c.args.numbers.now c.node_places-used.ensures.value c.number_places-spans.ensures.value c.places_left.ensures.value c.places_left-2.ensures.value c.put_numbers.ensures c.put_rows.ensures c.put_rows-2.ensures c.put_left_over.ensures
