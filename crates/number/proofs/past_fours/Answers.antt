-- `number::past_fours` meets its contract: a scan goes on past each four that are digits.
use mathlib.Core.Path.{refl, sym, ◌∙◌}
use native.Mathlib.Omega.{arith}
use Rattle.number.proofs.Fours.{past_four}
use Rattle.number.proofs.past_fours.Goals as goal

pub loop-end-init : goal.loop-end-init
loop-end-init c = record { within = c.requires; same = refl }

pub loop-end-preserved : goal.loop-end-preserved
loop-end-preserved c = past_four c.loop-end.invariant (omega (arith, c.loop-end-test.true, c.saturating_sub-fours_end.ensures)) (sym c.are_digits.ensures ∙ c.if-not-are_digits.false)

pub returns-then-not-are_digits : goal.returns-then-not-are_digits
returns-then-not-are_digits c = c.loop-end.invariant.same

pub returns : goal.returns
returns c = c.loop-end.invariant.same
