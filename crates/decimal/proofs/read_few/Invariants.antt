-- What `decimal::read_few` keeps true in its loop.
use Rattle.decimal.proofs.Loops.{Few}
use Rattle.decimal.proofs.read_few.Given as goal

abbrev pub invariant-loop-i : goal.invariant-loop-i
invariant-loop-i l = Few l.w l.from l.to l.value l.i
