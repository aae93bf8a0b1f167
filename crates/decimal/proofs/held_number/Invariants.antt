-- What `decimal::held_number` keeps true in its loop.
use Rattle.decimal.proofs.Loops.{HeldFrom}
use Rattle.decimal.proofs.held_number.Given as goal

abbrev pub invariant-loop-i : goal.invariant-loop-i
invariant-loop-i l = HeldFrom l.w l.from l.size l.i
