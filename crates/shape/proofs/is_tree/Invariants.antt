-- What `shape::is_tree` keeps true in its loop.
use Rattle.shape.proofs.Loops.{Giving}
use Rattle.shape.proofs.is_tree.Given as goal

abbrev pub invariant-loop-i : goal.invariant-loop-i
invariant-loop-i l = Giving l.nodes l.count l.frames l.w l.i
