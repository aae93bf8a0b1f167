-- What `stored_reading::look_at_nodes` keeps true in its loop.
use Rattle.stored_form.specs.Form.{first_node}
use Rattle.stored_reading.proofs.Looks.{LookingNodes}
use Rattle.stored_reading.proofs.look_at_nodes.Given as goal

abbrev pub invariant-loop : goal.invariant-loop
invariant-loop l = LookingNodes l.width l.bytes (first_node l.width) l.c.nodes l.c.numbers l.frames l.w l.well l.at l.counter
