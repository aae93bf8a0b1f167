-- `walk::push` meets its contract: by whether it may be opened and a frame is left.
use native.Mathlib.Omega.{arith}
use borrow.Author.Tests.{eq-eqb, ne_eqb}
use Rattle.walk.specs.Walk.{put_next, pushing}
use Rattle.walk.proofs.push.Goals as goal

pub returns-then-not-may_open : goal.returns-then-not-may_open
unfolding pushing
returns-then-not-may_open c = rw (← c.if-not-may_open.ensures)

pub returns-in_err-top : goal.returns-in_err-top
unfolding pushing
returns-in_err-top c = rw (c.from_residual.ensures, ← c.if-not-may_open.ensures, eq-eqb c.args.w.top 0 (omega (arith, c.in_err-top.ensures)))

pub returns : goal.returns
unfolding pushing put_next
returns c = rw (← c.if-not-may_open.ensures, ne_eqb c.args.w.top 0 (λ z. omega (arith, c.in_ok-top.ensures)), c.opened.ensures, c.in_ok-top.ensures.1)
