-- `to_wkt::put_coordinate` meets its contract: what is still to be put is what was, less what is put.
use native.Mathlib.Omega.{arith}
use Rattle.pen.proofs.Puts.{emits_as, owes_same, owes_on, owes_end}
use Rattle.pieces.proofs.Pieces.{number_emits}
use Rattle.to_wkt.proofs.Canonical.{numbers_on, numbers_end, numbers_all}
use Rattle.to_wkt.proofs.put_coordinate.Goals as goal

pub loop-i-init : goal.loop-i-init
loop-i-init c = owes_same _ _ _

pub overflow_add-first : goal.overflow_add-first
overflow_add-first c = omega (arith, c.requires.fits, c.loop-i-test.true)

pub loop-i-preserved : goal.loop-i-preserved
loop-i-preserved c = owes_on c.loop-i.invariant (number_emits _ _ _ c.put_number-q.ensures) (numbers_on _ _ _ _ _ _ c.loop-i-test.true)

pub shape_of-out : goal.shape_of-out
shape_of-out c = c.loop-i.invariant.same

pub returns : goal.returns
returns c = emits_as (owes_end c.loop-i.invariant (numbers_end _ _ _ _ _ _ c.loop-i-test.false)) (numbers_all _ _ _ _ _ c.requires.some)
