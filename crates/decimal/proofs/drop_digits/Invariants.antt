-- What `decimal::drop_digits` keeps true in its loop.
use Prim.Native.Nat.{◌+◌}
use Rattle.decimal.proofs.Loops.{DropsOn}
use Rattle.decimal.proofs.drop_digits.Given as goal

abbrev pub invariant-loop-b : goal.invariant-loop-b
invariant-loop-b l = DropsOn l.w l.fn.before l.k (l.fn.before.end + l.b-index)
