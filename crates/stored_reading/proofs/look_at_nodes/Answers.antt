-- `stored_reading::look_at_nodes` meets its contract: the walk has entered the rows of the fields so far, or one of them made them no tree.
use mathlib.Core.Path.{sym, ◌∙◌}
use Prim.Native.Nat.{ℕ}
use native.Mathlib.Omega.{arith}
use lib.ListN.{length-replicate}
use Rattle.nodes.specs.declared.Frame.{Frame}
use Rattle.walk.specs.Walk.{frames, no_frame}
use Rattle.stored_reading.proofs.Looks.{nodes_begin, node_room_law, node_faulty, node_passed, node_met, nodes_end}
use Rattle.stored_reading.proofs.look_at_nodes.Goals as goal
use Rattle.stored_reading.proofs.look_at_nodes.Goals.{then-well, else-well}

pub loop-init : goal.loop-init
loop-init c = rw c.first_node-at.ensures (nodes_begin _ _ _ _ _ _ (length-replicate {A = Frame} frames no_frame) c.start-w.ensures)

pub returns-then-not-is_sized : goal.returns-then-not-is_sized
returns-then-not-is_sized c = node_faulty c.loop.invariant c.loop-test.true (sym c.is_sized.ensures ∙ c.if-not-is_sized.true)

pub overflow_add-content : goal.overflow_add-content
overflow_add-content c = omega (arith, node_room_law _ _ _ (sym c.is_sized.ensures ∙ c.if-not-is_sized.false))

pub overflow_add-parts : goal.overflow_add-parts
overflow_add-parts c = omega (arith, node_room_law _ _ _ (sym c.is_sized.ensures ∙ c.if-not-is_sized.false))

pub overflow_add-end : goal.overflow_add-end
overflow_add-end c = omega (arith, node_room_law _ _ _ (sym c.is_sized.ensures ∙ c.if-not-is_sized.false))

pub bounds-bytes-content : goal.bounds-bytes-content
bounds-bytes-content c = omega (arith, node_room_law _ _ _ (sym c.is_sized.ensures ∙ c.if-not-is_sized.false))

pub overflow_add-content-then-well : goal.overflow_add-content-then-well
overflow_add-content-then-well c = omega (arith, node_room_law _ _ _ (sym c.is_sized.ensures ∙ c.if-not-is_sized.false))

pub bounds-bytes-content-then-well : goal.bounds-bytes-content-then-well
bounds-bytes-content-then-well c = omega (arith, node_room_law _ _ _ (sym c.is_sized.ensures ∙ c.if-not-is_sized.false))

pub slice_bounds-count_in-end : goal.slice_bounds-count_in-end
slice_bounds-count_in-end c = omega (arith, node_room_law _ _ _ (sym c.is_sized.ensures ∙ c.if-not-is_sized.false))

pub loop-preserved : goal.loop-preserved
loop-preserved c =
    let e = sym c.is_sized.ensures ∙ c.if-not-is_sized.false in
    let inv = c.loop.invariant in
    let test = c.loop-test.true in
    let narrow = c.requires.0 in
    let few = c.requires.1 in
    let all : (i : ℕ) → _ = λ i. (c.type_inv.bytes i).fits in
    elim c.if-well.branch [
      | then-well w ↦ rw (w.frames-is, w.w-is, w.well-is) (node_met inv test e w.if-well.true narrow few all w.count_in.ensures w.advance-well.ensures)
      | else-well w ↦ rw (w.frames-is, w.w-is, w.well-is) (node_passed inv test e w.if-well.false)
    ]

pub returns : goal.returns
returns c = rw c.has_ended.ensures (nodes_end c.loop.invariant c.loop-test.false)
