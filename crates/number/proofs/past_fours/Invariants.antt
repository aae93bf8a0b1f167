-- What `number::past_fours` keeps true in its loop, and what falls.
use Prim.Native.Nat.{◌-◌}
use lib.ListN.{length}
use Rattle.number.proofs.Fours.{Gone}
use Rattle.number.proofs.past_fours.Given as goal

abbrev pub invariant-loop-end : goal.invariant-loop-end
invariant-loop-end l = Gone l.w l.at l.end

abbrev pub decreases-loop-end : goal.decreases-loop-end
decreases-loop-end l = length l.w - l.end
