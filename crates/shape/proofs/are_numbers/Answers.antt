-- `shape::are_numbers` meets its contract: each number passed is one that lies in the text and is a lexeme.
use mathlib.Core.Path.{sym, ◌∙◌}
use native.Mathlib.Omega.{arith}
use Rattle.shape.proofs.Numbers.{numbers_none, numbers_more, numbers_fail, numbers_end}
use Rattle.shape.proofs.are_numbers.Goals as goal

pub loop-i-init : goal.loop-i-init
loop-i-init c = numbers_none _ _

pub returns-then-not-is_number_at : goal.returns-then-not-is_number_at
returns-then-not-is_number_at c = numbers_fail _ _ _ (omega (arith, c.loop-i-test.true, c.number_room-i-end.ensures)) (sym c.is_number_at.ensures ∙ c.if-not-is_number_at.true)

pub loop-i-preserved : goal.loop-i-preserved
loop-i-preserved c = numbers_more _ _ _ c.loop-i.invariant (sym c.is_number_at.ensures ∙ c.if-not-is_number_at.false)

pub returns : goal.returns
returns c = numbers_end _ _ _ (omega (arith, c.loop-i-test.false, c.loop-i.auto.i-end, c.number_room-i-end.ensures)) c.loop-i.invariant
