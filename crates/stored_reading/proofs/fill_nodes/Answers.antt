-- `stored_reading::fill_nodes` meets its contract: the rows put so far are those of the fields so far, and what is left of the slice is cleared.
use native.Mathlib.Omega.{arith}
use Rattle.stored_reading.proofs.Fills.{nodes_begin, nodes_room, nodes_on_law, nodes_filled}
use mathlib.Core.Path.{ap, ◌∙◌}
use Rattle.store.specs.Rows.{cleared}
use Rattle.stored_reading.proofs.fill_nodes.Goals as goal

pub loop-i-init : goal.loop-i-init
loop-i-init c = rw c.first_node-at.ensures (nodes_begin _ _ _ _ _ c.requires.2)

pub overflow_add-content : goal.overflow_add-content
overflow_add-content c = omega (arith, nodes_room c.loop-i.invariant c.loop-i-test.true)

pub overflow_add-parts : goal.overflow_add-parts
overflow_add-parts c = omega (arith, nodes_room c.loop-i.invariant c.loop-i-test.true)

pub overflow_add-end : goal.overflow_add-end
overflow_add-end c = omega (arith, nodes_room c.loop-i.invariant c.loop-i-test.true)

pub bounds-bytes-content : goal.bounds-bytes-content
bounds-bytes-content c = omega (arith, nodes_room c.loop-i.invariant c.loop-i-test.true)

pub overflow_add-content-in-loop-i : goal.overflow_add-content-in-loop-i
overflow_add-content-in-loop-i c = omega (arith, nodes_room c.loop-i.invariant c.loop-i-test.true)

pub bounds-bytes-content-in-loop-i : goal.bounds-bytes-content-in-loop-i
bounds-bytes-content-in-loop-i c = omega (arith, nodes_room c.loop-i.invariant c.loop-i-test.true)

pub slice_bounds-count_in-end : goal.slice_bounds-count_in-end
slice_bounds-count_in-end c = omega (arith, nodes_room c.loop-i.invariant c.loop-i-test.true)

pub loop-i-preserved : goal.loop-i-preserved
loop-i-preserved c = nodes_on_law c.loop-i.invariant c.loop-i-test.true c.requires.1 c.requires.0 (λ i. (c.type_inv.bytes i).fits) c.count_in.ensures c.put_row.ensures

pub shape_of-nodes : goal.shape_of-nodes
shape_of-nodes c = c.clear.auto.slice ∙ c.loop-i.invariant.same

pub returns : goal.returns
returns c = nodes_filled c.loop-i.invariant c.loop-i-test.false c.requires.1 (c.clear.ensures ∙ ap (cleared c.loop-i.nodes) c.node_places.ensures.value)
