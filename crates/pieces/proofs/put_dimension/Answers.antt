-- `pieces::put_dimension` meets its contract. The loop's invariant: what the endings from `row` on put is still to be put.
use borrow.Author.Tests.{eq-eqb, ne_eqb}
use native.Mathlib.Omega.{arith}
use mathlib.Core.Path.{◌∙◌}
use Rattle.names.proofs.Rows.{ending_row_law}
use Rattle.pieces.specs.Pieces.{dimension_pieces}
use Rattle.pieces.proofs.Pieces.{puts_none, puts_on, puts_as}
use Rattle.pieces.proofs.Tables.{still_all, still_as, still_put, still_none, endings_all, endings_none, ending_put, ending_not}
use Rattle.pieces.proofs.put_dimension.Goals as goal
use Rattle.pieces.proofs.put_dimension.Goals.{then-row-dimension, else-row-dimension}

pub returns-then-dimension-eq-DIM_XY : goal.returns-then-dimension-eq-DIM_XY
unfolding dimension_pieces
returns-then-dimension-eq-DIM_XY c = puts_as (puts_none _ _) (rw (eq-eqb _ _ c.if-dimension-eq-DIM_XY.true))

pub loop-row-init : goal.loop-row-init
loop-row-init c = still_all (endings_all _ c.if-dimension-eq-DIM_XY.false)

pub overflow_cast-row-then-row-dimension : goal.overflow_cast-row-then-row-dimension
overflow_cast-row-then-row-dimension c = omega (arith, (ending_row_law _ c.loop-row-test.true).small)

pub put_letters-q-requires : goal.put_letters-q-requires
put_letters-q-requires c = (ending_row_law _ c.loop-row-test.true).inside

pub loop-row-preserved : goal.loop-row-preserved
loop-row-preserved c =
    let at = c.loop-row in
    let h = c.loop-row-test.true in
    elim c.if-row-dimension.branch [ then-row-dimension w ↦ rw (w.out-is, w.q-is) (still_put (still_as (ending_put at.row _ h w.if-row-dimension.true) at.invariant) w.put_letters-q.ensures w.put_letters-q.auto.out) | else-row-dimension w ↦ rw (w.out-is, w.q-is) (still_as (ending_not at.row _ h w.if-row-dimension.false) at.invariant) ]

pub shape_of-out : goal.shape_of-out
shape_of-out c = c.loop-row.invariant.same ∙ c.put_byte-q.auto.out

pub returns : goal.returns
unfolding dimension_pieces
returns c =
    puts_as
    (puts_on c.put_byte-q.ensures (still_none (still_as (endings_none _ _ c.loop-row-test.false) c.loop-row.invariant)))
    (rw (ne_eqb _ _ c.if-dimension-eq-DIM_XY.false))
