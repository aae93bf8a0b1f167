-- `stored_writing::measure_numbers` meets its contract: what is measured of all texts is what is measured so far, and of the texts still to come.
use native.Mathlib.Omega.{arith}
use Rattle.stored_writing.proofs.Measures.{measuring_none, measuring_long, measuring_over, measuring_on, measuring_all}
use Rattle.stored_writing.proofs.measure_numbers.Goals as goal

pub loop-i-init : goal.loop-i-init
loop-i-init c = measuring_none _ _

pub overflow_add-result : goal.overflow_add-result
overflow_add-result c = omega (arith, c.requires)

pub returns-then-length-gt-LONGEST : goal.returns-then-length-gt-LONGEST
returns-then-length-gt-LONGEST c = measuring_long c.loop-i.invariant (omega (arith, c.loop-i-test.true, c.number_room-i-end.ensures)) (omega (arith, c.length_at-length.ensures, c.if-length-gt-LONGEST.true))

pub overflow_add-bytes : goal.overflow_add-bytes
overflow_add-bytes c = omega (arith, c.requires, c.loop-i.invariant.few)

pub overflow_add-bytes-in-loop-i : goal.overflow_add-bytes-in-loop-i
overflow_add-bytes-in-loop-i c = omega (arith, c.requires, c.loop-i.invariant.few, c.if-length-gt-LONGEST.false)

pub overflow_add-result-then-limit-bytes : goal.overflow_add-result-then-limit-bytes
overflow_add-result-then-limit-bytes c = omega (arith, c.requires)

pub returns-then-limit-bytes : goal.returns-then-limit-bytes
returns-then-limit-bytes c = measuring_over c.loop-i.invariant (omega (arith, c.loop-i-test.true, c.number_room-i-end.ensures)) (omega (arith, c.length_at-length.ensures, c.if-limit-bytes.true))

pub loop-i-preserved : goal.loop-i-preserved
loop-i-preserved c = rw c.length_at-length.ensures (measuring_on c.loop-i.invariant (omega (arith, c.loop-i-test.true, c.number_room-i-end.ensures)) (omega (arith, c.length_at-length.ensures, c.if-length-gt-LONGEST.false)) (omega (arith, c.length_at-length.ensures, c.if-limit-bytes.false)))

pub returns : goal.returns
returns c = measuring_all c.loop-i.invariant (omega (arith, c.number_room-i-end.ensures, c.loop-i-test.false))
