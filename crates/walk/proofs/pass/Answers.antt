-- `walk::pass` meets its contract: by whether its numbers are there.
use native.Mathlib.Omega.{arith}
use Prim.Native.Nat.{◌+◌}
use borrow.Author.Tests.{le-leb, lt-leb}
use Rattle.walk.specs.Walk.{put_next, passing_leaf}
use Rattle.walk.proofs.pass.Goals as goal

pub returns-in_err-number : goal.returns-in_err-number
unfolding passing_leaf
returns-in_err-number c = rw (c.from_residual.ensures, ← c.numbers_of.ensures, lt-leb (c.args.v.number + c.numbers_of.result) c.args.count (omega (arith, c.in_err-number.ensures)))

pub returns-then-count-number : goal.returns-then-count-number
unfolding passing_leaf
returns-then-count-number c = rw (← c.numbers_of.ensures, ← c.in_ok-number.ensures.1, lt-leb _ _ c.if-count-number.true)

pub returns : goal.returns
unfolding passing_leaf put_next
returns c = rw (← c.numbers_of.ensures, ← c.in_ok-number.ensures.1, le-leb _ _ c.if-count-number.false)
