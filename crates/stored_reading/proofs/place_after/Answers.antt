-- `stored_reading::place_after` meets its contract: the place is that of the number field after those passed.
use mathlib.Core.Path.{ap, ◌∙◌}
use Prim.Native.Nat.{◌+◌}
use native.Mathlib.Omega.{arith}
use Rattle.fields.proofs.Looks.{length_read}
use Rattle.stored_reading.proofs.Fills.{placing_begins, placing_room, placing_on, placing_ends}
use Rattle.stored_reading.proofs.place_after.Goals as goal

pub loop-init : goal.loop-init
loop-init c = placing_begins _ _ _ c.requires

pub overflow_add-start : goal.overflow_add-start
overflow_add-start c = omega (arith, placing_room c.loop.invariant c.loop-test.true)

pub overflow_add-at : goal.overflow_add-at
overflow_add-at c = omega (arith, placing_room c.loop.invariant c.loop-test.true)

pub slice_bounds-count_in-end : goal.slice_bounds-count_in-end
slice_bounds-count_in-end c = omega (arith, placing_room c.loop.invariant c.loop-test.true)

pub overflow_add-at-in-loop : goal.overflow_add-at-in-loop
overflow_add-at-in-loop c = omega (arith, placing_room c.loop.invariant c.loop-test.true, c.count_in.ensures ∙ length_read _ c.loop.at (λ i. (c.type_inv.bytes i).fits))

pub loop-preserved : goal.loop-preserved
loop-preserved c = placing_on c.loop.invariant c.loop-test.true (ap (λ n. c.loop.at + 3 + n) (c.count_in.ensures ∙ length_read _ c.loop.at (λ i. (c.type_inv.bytes i).fits)))

pub returns : goal.returns
returns c = placing_ends c.loop.invariant c.loop-test.false
