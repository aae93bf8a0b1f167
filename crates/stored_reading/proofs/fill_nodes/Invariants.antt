-- What `stored_reading::fill_nodes` keeps true in its loop.
use Rattle.stored_form.specs.Form.{first_node}
use Rattle.stored_reading.proofs.Fills.{FillingNodes}
use Rattle.stored_reading.proofs.fill_nodes.Given as goal

abbrev pub invariant-loop-i : goal.invariant-loop-i
invariant-loop-i l = FillingNodes l.width l.bytes (first_node l.width) l.count l.initial.nodes l.nodes l.at l.i
