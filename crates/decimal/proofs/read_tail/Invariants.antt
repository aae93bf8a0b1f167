-- What `decimal::read_tail` keeps true in its loop.
use Rattle.decimal.proofs.Loops.{TailFrom}
use Rattle.decimal.proofs.read_tail.Given as goal

abbrev pub invariant-loop-i : goal.invariant-loop-i
invariant-loop-i l = TailFrom l.w l.from l.i
