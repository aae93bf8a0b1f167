-- What `node_boxes::look_at_all` keeps true in its loop.
use Prim.Native.Nat.{◌-◌}
use Rattle.node_boxes.proofs.Loops.{Looking}
use Rattle.node_boxes.proofs.look_at_all.Given as goal

abbrev pub invariant-loop : goal.invariant-loop
invariant-loop l = Looking l.text l.numbers l.width l.initial.s l.initial.at l.v.parts l.initial.around l.s l.at (l.v.parts - l.counter) l.around
