-- What `node_boxes::fill` keeps true in its loops, and what falls.
use Rattle.shape.proofs.Stepped.{ahead_of}
use Rattle.shape.proofs.Loops.{Walking}
use Rattle.node_boxes.proofs.Loops.{Filling}
use Rattle.node_boxes.proofs.fill.Given as goal

abbrev pub invariant-loop-v : goal.invariant-loop-v
invariant-loop-v l = Walking l.nodes l.count l.frames l.w (Filling l.text l.numbers l.initial.table l.good l.found l.table)

abbrev pub decreases-loop-v : goal.decreases-loop-v
decreases-loop-v l = ahead_of l.nodes l.w
