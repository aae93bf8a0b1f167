-- `stored_reading::fill_numbers` meets its contract: the spans put so far are those of the fields so far, and what is left of the slice is cleared.
use mathlib.Core.Path.{◌∙◌}
use native.Mathlib.Omega.{arith}
use Rattle.fields.proofs.Looks.{length_read}
use Rattle.stored_reading.proofs.Fills.{numbers_begin, numbers_room, numbers_on, numbers_filled}
use mathlib.Core.Path.{ap, ◌∙◌}
use Rattle.store.specs.Rows.{cleared}
use Rattle.stored_reading.proofs.fill_numbers.Goals as goal

pub loop-i-init : goal.loop-i-init
loop-i-init c = numbers_begin _ _ _ _ c.requires.2

pub overflow_add-start : goal.overflow_add-start
overflow_add-start c = omega (arith, numbers_room c.loop-i.invariant c.loop-i-test.true)

pub overflow_add-at : goal.overflow_add-at
overflow_add-at c = omega (arith, numbers_room c.loop-i.invariant c.loop-i-test.true)

pub slice_bounds-count_in-end : goal.slice_bounds-count_in-end
slice_bounds-count_in-end c = omega (arith, numbers_room c.loop-i.invariant c.loop-i-test.true)

pub overflow_cast-start : goal.overflow_cast-start
overflow_cast-start c = omega (arith, c.requires.0, numbers_room c.loop-i.invariant c.loop-i-test.true)

pub overflow_add-at-in-loop-i : goal.overflow_add-at-in-loop-i
overflow_add-at-in-loop-i c = omega (arith, numbers_room c.loop-i.invariant c.loop-i-test.true, c.count_in-length.ensures ∙ length_read _ c.loop-i.at (λ i. (c.type_inv.bytes i).fits))

pub loop-i-preserved : goal.loop-i-preserved
loop-i-preserved c = numbers_on c.loop-i.invariant c.loop-i-test.true c.requires.1 (c.count_in-length.ensures ∙ length_read _ c.loop-i.at (λ i. (c.type_inv.bytes i).fits)) c.put_number.ensures

pub shape_of-numbers : goal.shape_of-numbers
shape_of-numbers c = c.clear.auto.slice ∙ c.loop-i.invariant.same

pub returns : goal.returns
returns c = numbers_filled c.loop-i.invariant c.loop-i-test.false c.requires.1 (c.clear.ensures ∙ ap (cleared c.loop-i.numbers) c.number_places.ensures.value)
