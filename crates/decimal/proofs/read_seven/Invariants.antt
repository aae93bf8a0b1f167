-- What `decimal::read_seven` keeps true in its loop.
use Rattle.decimal.proofs.Loops.{SevenSoFar}
use Rattle.decimal.proofs.read_seven.Given as goal

abbrev pub invariant-loop-b : goal.invariant-loop-b
invariant-loop-b l = SevenSoFar l.seven l.all l.raw l.b-index
