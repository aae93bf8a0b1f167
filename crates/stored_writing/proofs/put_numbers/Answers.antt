-- `stored_writing::put_numbers` meets its contract: what is still to be put is what was, less what is put.
use native.Mathlib.Omega.{arith}
use Rattle.pen.proofs.Puts.{owes_same, owes_on, owes_end, emits}
use Rattle.stored_writing.proofs.Putting.{numbers_on, numbers_end}
use Rattle.stored_writing.proofs.put_numbers.Goals as goal

pub loop-i-init : goal.loop-i-init
loop-i-init c = owes_same _ _ _

pub loop-i-preserved : goal.loop-i-preserved
loop-i-preserved c = owes_on c.loop-i.invariant (emits c.put_field-q.ensures) (numbers_on _ _ _ (omega (arith, c.number_room-count.ensures, c.loop-i-test.true)) c.number_text.ensures)

pub shape_of-out : goal.shape_of-out
shape_of-out c = c.loop-i.invariant.same

pub returns : goal.returns
returns c = owes_end c.loop-i.invariant (numbers_end c.args.text.now c.args.numbers.now c.loop-i.i (omega (arith, c.number_room-count.ensures, c.loop-i-test.false)))
