-- What `decimal::keep_digits` keeps true in its loop.
use Prim.Native.Nat.{◌+◌}
use Rattle.decimal.proofs.Loops.{KeepsOn}
use Rattle.decimal.proofs.keep_digits.Given as goal

abbrev pub invariant-loop-b : goal.invariant-loop-b
invariant-loop-b l = KeepsOn l.w l.fn.before l.k (l.fn.before.end + l.b-index)
