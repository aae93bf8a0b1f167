-- `plain_numbers::fraction_end` meets its contract.
use Prim.Native.Nat.{ℕ}
use lib.ListN.{get_or-eq_default}
use borrow.Author.Tests.{ne_eqb}
use Rattle.plain_numbers.specs.Plain.{fraction_end}
use Rattle.plain_numbers.proofs.fraction_end.Goals as goal

pub returns-then-text-at : goal.returns-then-text-at
unfolding fraction_end
returns-then-text-at c = rw (get_or-eq_default {A = ℕ} _ 0 c.if-text-at.true)

pub returns-then-text-at-eq46 : goal.returns-then-text-at-eq46
unfolding fraction_end
returns-then-text-at-eq46 c = rw c.if-text-at-eq46.true c.digits_end.ensures

pub returns-else-text-at-eq46 : goal.returns-else-text-at-eq46
unfolding fraction_end
returns-else-text-at-eq46 c = rw (ne_eqb _ _ c.if-text-at-eq46.false)
