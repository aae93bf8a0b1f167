-- `to_wkt::put_coordinates` meets its contract: what is still to be put is what was, less what is put.
use native.Mathlib.Omega.{arith}
use Rattle.pen.proofs.Puts.{emits_as, owes_same, owes_on, owes_end}
use Rattle.to_wkt.proofs.Canonical.{coordinates_on, coordinates_end, coordinates_all, numbers_before}
use Rattle.to_wkt.proofs.put_coordinates.Goals as goal

pub loop-i-init : goal.loop-i-init
loop-i-init c = owes_same _ _ _

pub overflow_mul-i : goal.overflow_mul-i
overflow_mul-i c = omega (arith, c.requires.fits, numbers_before c.args.width c.args.count c.loop-i.i c.loop-i-test.true)

pub overflow_add-first : goal.overflow_add-first
overflow_add-first c = omega (arith, c.requires.fits, numbers_before c.args.width c.args.count c.loop-i.i c.loop-i-test.true)

pub put_coordinate-q-requires : goal.put_coordinate-q-requires
put_coordinate-q-requires c = record { some = c.requires.wide; fits = omega (arith, c.requires.fits, numbers_before c.args.width c.args.count c.loop-i.i c.loop-i-test.true) }

pub loop-i-preserved : goal.loop-i-preserved
loop-i-preserved c = owes_on c.loop-i.invariant c.put_coordinate-q.ensures (coordinates_on _ _ _ c.args.first _ _ _ c.loop-i-test.true)

pub shape_of-out : goal.shape_of-out
shape_of-out c = c.loop-i.invariant.same

pub returns : goal.returns
returns c = emits_as (owes_end c.loop-i.invariant (coordinates_end _ _ _ c.args.first _ _ _ c.loop-i-test.false)) (coordinates_all _ _ _ c.args.first _ _ c.requires.some)
