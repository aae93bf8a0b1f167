-- `pieces::put_name` meets its contract. The loop's invariant: what the names from `row` on put is still to be put.
use native.Mathlib.Omega.{arith}
use Rattle.names.proofs.Rows.{name_row}
use Rattle.pieces.proofs.Tables.{still_all, still_as, still_put, still_none, names_all, names_none, name_put, name_not}
use Rattle.pieces.proofs.put_name.Goals as goal
use Rattle.pieces.proofs.put_name.Goals.{then-row-kind, else-row-kind}

pub loop-row-init : goal.loop-row-init
loop-row-init c = still_all (names_all _)

pub overflow_cast-row-then-row-kind : goal.overflow_cast-row-then-row-kind
overflow_cast-row-then-row-kind c = omega (arith, (name_row _ c.loop-row-test.true).small)

pub put_letters-q-requires : goal.put_letters-q-requires
put_letters-q-requires c = (name_row _ c.loop-row-test.true).inside

pub loop-row-preserved : goal.loop-row-preserved
loop-row-preserved c =
    let at = c.loop-row in
    let h = c.loop-row-test.true in
    elim c.if-row-kind.branch [ then-row-kind w ↦ rw (w.out-is, w.q-is) (still_put (still_as (name_put at.row _ h w.if-row-kind.true) at.invariant) w.put_letters-q.ensures w.put_letters-q.auto.out) | else-row-kind w ↦ rw (w.out-is, w.q-is) (still_as (name_not at.row _ h w.if-row-kind.false) at.invariant) ]

pub shape_of-out : goal.shape_of-out
shape_of-out c = c.loop-row.invariant.same

pub returns : goal.returns
returns c = still_none (still_as (names_none _ _ c.loop-row-test.false) c.loop-row.invariant)
