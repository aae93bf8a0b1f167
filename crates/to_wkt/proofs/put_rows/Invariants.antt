-- What `to_wkt::put_rows` keeps true in its loops, and what falls.
use mathlib.Core.Path.{◌≡◌}
use lib.ListN.{length}
use Rattle.shape.proofs.Stepped.{ahead_of}
use Rattle.shape.proofs.Loops.{Walking}
use Rattle.to_wkt.proofs.PutByWalk.{Owed}
use Rattle.to_wkt.proofs.put_rows.Given as goal

abbrev pub invariant-loop-v : goal.invariant-loop-v
invariant-loop-v l = (length l.out ≡ length l.initial.out) × Walking l.nodes l.count l.frames l.w (Owed l.text l.numbers l.pen l.out)

abbrev pub decreases-loop-v : goal.decreases-loop-v
decreases-loop-v l = ahead_of l.nodes l.w
