-- `to_wkt::put_rows` meets its contract: the law of a loop over a walk, with the text of the things met.
use mathlib.Core.Path.{refl, ap, sym, ◌∙◌}
use lib.ListN.{length-replicate}
use Rattle.nodes.specs.declared.Frame.{Frame}
use Rattle.walk.specs.Walk.{frames, no_frame}
use Rattle.shape.specs.Walk.{whole_walk}
use Rattle.shape.proofs.Loops.{begin, forward, turn, done, ill}
use Rattle.pen.proofs.Puts.{emits}
use Rattle.to_wkt.specs.Canonical.{put_met}
use Rattle.to_wkt.proofs.PutByWalk.{owed_none, owed_on, put_done, put_ill}
use Rattle.to_wkt.proofs.put_rows.Goals as goal

pub loop-v-init : goal.loop-v-init
loop-v-init c = (refl, begin _ _ _ (length-replicate {A = Frame} frames no_frame) c.start-w.ensures (owed_none _ _ _))

pub put_node-pen-requires : goal.put_node-pen-requires
put_node-pen-requires c = rw c.number_room-count.ensures at (forward c.loop-v.invariant.1 c.step-s.ensures c.in-Node.is tt).numbers

pub loop-v-smaller-in-Node : goal.loop-v-smaller-in-Node
loop-v-smaller-in-Node c = (forward c.loop-v.invariant.1 c.step-s.ensures c.in-Node.is tt).less

pub loop-v-preserved-in-Node : goal.loop-v-preserved-in-Node
unfolding put_met
loop-v-preserved-in-Node c = (c.put_node-pen.ensures.same ∙ c.loop-v.invariant.0, turn c.loop-v.invariant.1 c.step-s.ensures c.in-Node.is tt (owed_on _ _ _ c.put_node-pen.ensures))

pub loop-v-smaller : goal.loop-v-smaller
loop-v-smaller c = (forward c.loop-v.invariant.1 c.step-s.ensures c.in-End.is tt).less

pub loop-v-preserved : goal.loop-v-preserved
unfolding put_met
loop-v-preserved c = ((emits c.put_byte-pen.ensures).same ∙ c.loop-v.invariant.0, turn c.loop-v.invariant.1 c.step-s.ensures c.in-End.is tt (owed_on _ _ _ (emits c.put_byte-pen.ensures)))

pub shape_of-out-in-Done : goal.shape_of-out-in-Done
shape_of-out-in-Done c = c.loop-v.invariant.0

pub returns-in-Done : goal.returns-in-Done
returns-in-Done c = put_done _ _ _ _ _ (ap (whole_walk _) (sym c.number_room-count.ensures) ∙ done c.loop-v.invariant.1 c.step-s.ensures c.in-Done.is) c.loop-v.invariant.1.holds

pub shape_of-out-in-Ill : goal.shape_of-out-in-Ill
shape_of-out-in-Ill c = c.loop-v.invariant.0

pub returns-in-Ill : goal.returns-in-Ill
returns-in-Ill c = put_ill _ _ c.loop-v.pen _ (ap (whole_walk _) (sym c.number_room-count.ensures) ∙ ill c.loop-v.invariant.1 c.step-s.ensures c.in-Ill.is)
