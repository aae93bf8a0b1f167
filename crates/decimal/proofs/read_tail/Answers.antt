-- `decimal::read_tail` meets its contract: behind zeros, the tail from i on comes to what the whole tail does.
use mathlib.Core.Path.{sym, ◌∙◌}
use Rattle.decimal.proofs.Loops.{tail_end, tail_on, tail_left, tail_other}
use Rattle.decimal.proofs.read_tail.Goals as goal

pub returns-then-all_digits : goal.returns-then-all_digits
returns-then-all_digits c = tail_left c.loop-i.invariant c.loop-i-test.true c.if-w-i-ne48.true (sym c.if-all_digits.true ∙ c.all_digits.ensures)

pub returns-else-all_digits : goal.returns-else-all_digits
returns-else-all_digits c = tail_other c.loop-i.invariant c.loop-i-test.true c.if-w-i-ne48.true (sym c.if-all_digits.false ∙ c.all_digits.ensures)

pub loop-i-preserved : goal.loop-i-preserved
loop-i-preserved c = tail_on c.loop-i.invariant c.loop-i-test.true c.if-w-i-ne48.false

pub returns : goal.returns
returns c = tail_end c.loop-i.invariant c.loop-i-test.false
