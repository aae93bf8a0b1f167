-- What `stored_writing::put_nodes` keeps true in its loop.
use mathlib.Core.Path.{◌≡◌}
use lib.ListN.{length}
use Rattle.pen.specs.Pen.{Owes}
use Rattle.stored_writing.proofs.Putting.{nodes_left}
use Rattle.stored_writing.proofs.put_nodes.Given as goal

abbrev pub invariant-loop-i : goal.invariant-loop-i
invariant-loop-i l = (length l.content ≡ 6) × Owes (nodes_left l.width l.nodes 0) (nodes_left l.width l.nodes l.i) l.initial.q l.initial.out l.q l.out
