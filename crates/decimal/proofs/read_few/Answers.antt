-- `decimal::read_few` meets its contract: the loop has read the digits before i.
use mathlib.Core.Path.{sym, ◌∙◌}
use native.Mathlib.Omega.{arith}
use Rattle.decimal.proofs.Loops.{few_end, few_stop, few_on}
use Rattle.decimal.proofs.read_few.Goals as goal

pub returns-then-not-is_digit : goal.returns-then-not-is_digit
returns-then-not-is_digit c = let r = few_stop c.loop-i.invariant c.requires.2 c.loop-i-test.true (sym c.is_digit.ensures ∙ c.if-not-is_digit.true) in
    record { value = r.told; end = r.ends }

pub loop-i-preserved : goal.loop-i-preserved
loop-i-preserved c = few_on c.loop-i.invariant c.requires.2 c.loop-i-test.true (sym c.is_digit.ensures ∙ c.if-not-is_digit.false)

pub returns : goal.returns
returns c = let r = few_end c.loop-i.invariant c.loop-i-test.false in
    record { value = r.told; end = omega (arith, r.ends, c.loop-i.invariant.within, c.loop-i-test.false) }
