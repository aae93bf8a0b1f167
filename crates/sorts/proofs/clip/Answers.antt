-- `sorts::clip` meets its contract.
use borrow.Author.Tests.{lt-ltb, le-ltb}
use Rattle.sorts.specs.Taken.{clipped}
use Rattle.sorts.proofs.clip.Goals as goal

pub returns-then-text-start : goal.returns-then-text-start
unfolding clipped
returns-then-text-start c = rw (le-ltb _ _ c.if-text-start.true)

pub returns-then-room-len : goal.returns-then-room-len
unfolding clipped
returns-then-room-len c = rw (lt-ltb _ _ c.if-text-start.false, lt-ltb _ _ c.if-room-len.true)

pub returns-else-room-len : goal.returns-else-room-len
unfolding clipped
returns-else-room-len c = rw (lt-ltb _ _ c.if-text-start.false, le-ltb _ _ c.if-room-len.false)
