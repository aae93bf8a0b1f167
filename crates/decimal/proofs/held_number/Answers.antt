-- `decimal::held_number` meets its contract: what is left to read from the size, held, is the whole number held.
use mathlib.Core.Path.{sym, ◌∙◌}
use native.Mathlib.Omega.{arith}
use Rattle.decimal.proofs.Loops.{holds_end, holds_stop, holds_on}
use Rattle.decimal.proofs.held_number.Goals as goal

pub returns-then-not-is_digit : goal.returns-then-not-is_digit
returns-then-not-is_digit c = let both = holds_stop c.loop-i.invariant c.loop-i-test.true (sym c.is_digit.ensures ∙ c.if-not-is_digit.true) in record { size = both.0; end = both.1 }

pub loop-i-preserved : goal.loop-i-preserved
loop-i-preserved c = holds_on c.loop-i.invariant c.loop-i-test.true _ (sym c.is_digit.ensures ∙ c.if-not-is_digit.false) c.min-size.ensures

pub returns : goal.returns
returns c = let both = holds_end c.loop-i.invariant c.loop-i-test.false in record { size = both.0; end = omega (arith, both.1, c.loop-i.invariant.within, c.loop-i-test.false) }
