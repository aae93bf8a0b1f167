-- `names::letter_at` meets its contract.
use borrow.Author.Tests.{lt-ltb, le-ltb}
use Rattle.names.specs.Letters.{letter_at}
use Rattle.names.proofs.letter_at.Goals as goal

pub returns-then-i-w : goal.returns-then-i-w
unfolding letter_at
returns-then-i-w c = rw (lt-ltb _ _ c.if-i-w.true) c.to_upper.ensures

pub returns-else-i-w : goal.returns-else-i-w
unfolding letter_at
returns-else-i-w c = rw (le-ltb _ _ c.if-i-w.false)
