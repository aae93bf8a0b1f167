-- `node_boxes::fill` meets its contract: the law of a loop over a walk, with what was made of the things met.
use mathlib.Core.Path.{ap, sym, ◌∙◌}
use lib.ListN.{length-replicate}
use Rattle.nodes.specs.declared.Frame.{Frame}
use Rattle.walk.specs.Walk.{frames, no_frame}
use Rattle.shape.specs.Walk.{whole_walk}
use Rattle.shape.proofs.Loops.{begin, forward, turn, done, ill}
use Rattle.node_boxes.proofs.Loops.{filling_start, filling_node, filling_end, filling_done, filling_ill}
use Rattle.node_boxes.proofs.fill.Goals as goal

pub loop-v-init : goal.loop-v-init
loop-v-init c = begin _ _ _ (length-replicate {A = Frame} frames no_frame) c.start-w.ensures (filling_start _ _ _)

pub enter-own-requires : goal.enter-own-requires
enter-own-requires c = rw c.number_room-count.ensures at (forward c.loop-v.invariant c.step-s.ensures c.in-Node.is tt).numbers

pub loop-v-smaller-in-Node : goal.loop-v-smaller-in-Node
loop-v-smaller-in-Node c = (forward c.loop-v.invariant c.step-s.ensures c.in-Node.is tt).less

pub loop-v-preserved-in-Node : goal.loop-v-preserved-in-Node
loop-v-preserved-in-Node c =
    let e = c.enter-own in
    turn c.loop-v.invariant c.step-s.ensures c.in-Node.is tt (λ ms f. filling_node _ _ ms f _ e.ensures.seen c.or_other-found.ensures e.ensures.table e.auto.table)

pub loop-v-smaller : goal.loop-v-smaller
loop-v-smaller c = (forward c.loop-v.invariant c.step-s.ensures c.in-End.is tt).less

pub loop-v-preserved : goal.loop-v-preserved
loop-v-preserved c = turn c.loop-v.invariant c.step-s.ensures c.in-End.is tt (λ ms f. filling_end _ _ ms f _ _ c.close.ensures c.close.auto.table)

pub shape_of-table-in-Done : goal.shape_of-table-in-Done
shape_of-table-in-Done c = c.loop-v.invariant.holds.long

pub returns-in-Done : goal.returns-in-Done
returns-in-Done c = filling_done _ _ _ c.loop-v.invariant.holds c.verdict_of.ensures (ap (whole_walk _) (sym c.number_room-count.ensures) ∙ done c.loop-v.invariant c.step-s.ensures c.in-Done.is)

pub shape_of-table-in-Ill : goal.shape_of-table-in-Ill
shape_of-table-in-Ill c = c.loop-v.invariant.holds.long

pub returns-in-Ill : goal.returns-in-Ill
returns-in-Ill c = filling_ill _ _ _ _ c.verdict_of-in-Ill.ensures (ap (whole_walk _) (sym c.number_room-count.ensures) ∙ ill c.loop-v.invariant c.step-s.ensures c.in-Ill.is)
