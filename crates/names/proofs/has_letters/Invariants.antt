-- What `names::has_letters` keeps true in its loops, and what falls in the first.
use Prim.Native.Nat.{◌-◌, ◌≤◌}
use lib.ListN.{length as size, take}
use Rattle.names.proofs.Capitals.{LeftAt}
use Rattle.names.proofs.has_letters.Given as goal

abbrev pub invariant-loop-i : goal.invariant-loop-i
invariant-loop-i l = (l.length ≤ size l.w) × LeftAt l.w (take l.length l.letters) l.i

abbrev pub decreases-loop-i : goal.decreases-loop-i
decreases-loop-i l = l.length - l.i

abbrev pub invariant-loop-place : goal.invariant-loop-place
invariant-loop-place l = (l.length ≤ size l.w) × LeftAt l.w (take l.length l.letters) l.place
