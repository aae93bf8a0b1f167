-- `stored_writing::put_nodes` meets its contract: what is still to be put is what was, less what is put.
use mathlib.Core.Path.{refl, sym, ◌∙◌}
use Prim.Native.Nat.{◌+◌}
use native.Mathlib.Omega.{arith}
use lib.ListN.{length-set}
use lib.Seq.{length-take-le}
use Rattle.pen.proofs.Puts.{owes_same, owes_on, owes_end, emits}
use Rattle.stored_writing.proofs.Putting.{nodes_on_law, nodes_end, node_cells_length, node_content_law, small_at}
use Rattle.stored_writing.proofs.put_nodes.Goals as goal

pub overflow_add-end : goal.overflow_add-end
overflow_add-end c = omega (arith, c.requires.0)

pub loop-i-init : goal.loop-i-init
loop-i-init c = (refl, owes_same _ _ _)

pub overflow_cast-content : goal.overflow_cast-content
overflow_cast-content c = omega (arith, c.kind_at.ensures, (small_at c.args.nodes.now c.loop-i.i c.requires.1 (omega (arith, c.node_room-i-end.ensures, c.loop-i-test.true))).0)

pub bounds-content-0 : goal.bounds-content-0
bounds-content-0 c = omega (arith, c.loop-i.invariant.0)

pub overflow_cast-content-in-loop-i : goal.overflow_cast-content-in-loop-i
overflow_cast-content-in-loop-i c = omega (arith, c.dimension_at.ensures, (small_at c.args.nodes.now c.loop-i.i c.requires.1 (omega (arith, c.node_room-i-end.ensures, c.loop-i-test.true))).1)

pub slice_bounds-content-end : goal.slice_bounds-content-end
slice_bounds-content-end c = simp length-set (omega (arith, c.loop-i.invariant.0, c.requires.0))

pub slice_bounds-content-end-in-loop-i : goal.slice_bounds-content-end-in-loop-i
slice_bounds-content-end-in-loop-i c =
    let l = node_cells_length c.loop-i.content c.kind_at.result c.dimension_at.result c.args.width c.parts_at.result c.loop-i.invariant.0 c.requires.0 c.put_count.ensures in
    omega (arith, l, c.requires.0)

pub slice_bounds-put_field-end : goal.slice_bounds-put_field-end
slice_bounds-put_field-end c =
    let l = node_cells_length c.loop-i.content c.kind_at.result c.dimension_at.result c.args.width c.parts_at.result c.loop-i.invariant.0 c.requires.0 c.put_count.ensures in
    sym (length-take-le (2 + c.args.width) _ (omega (arith, l, c.requires.0)))

pub loop-i-preserved : goal.loop-i-preserved
loop-i-preserved c =
    let l = c.loop-i in (
      node_cells_length l.content c.kind_at.result c.dimension_at.result c.args.width c.parts_at.result l.invariant.0 c.requires.0 c.put_count.ensures,
      owes_on l.invariant.1 (emits c.put_field-q.ensures) (nodes_on_law c.args.width c.args.nodes.now l.i (omega (arith, c.node_room-i-end.ensures, c.loop-i-test.true)) (node_content_law l.content c.kind_at.result c.dimension_at.result c.args.width c.parts_at.result l.invariant.0 c.requires.0 c.put_count.ensures ∙ rw (c.kind_at.ensures, c.dimension_at.ensures, c.parts_at.ensures))),
    )

pub shape_of-out : goal.shape_of-out
shape_of-out c = c.loop-i.invariant.1.same

pub returns : goal.returns
returns c = owes_end c.loop-i.invariant.1 (nodes_end c.args.width c.args.nodes.now c.loop-i.i (omega (arith, c.node_room-i-end.ensures, c.loop-i-test.false)))
