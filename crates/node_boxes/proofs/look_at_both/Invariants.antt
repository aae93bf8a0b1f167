-- What `node_boxes::look_at_both` keeps true in its loop.
use Rattle.node_boxes.proofs.Loops.{Axes}
use Rattle.node_boxes.proofs.look_at_both.Given as goal

abbrev pub invariant-loop-axis : goal.invariant-loop-axis
invariant-loop-axis l = Axes l.text l.numbers l.at l.initial.s l.initial.around l.s l.axis l.around
