-- `strict::first_fault` meets its contract: the law of a loop over a walk, with the first fault of the things met.
use mathlib.Core.Path.{refl, ap, sym, ◌∙◌}
use lib.ListN.{length-replicate}
use Rattle.nodes.specs.declared.Frame.{Frame}
use Rattle.walk.specs.Walk.{frames, no_frame}
use Rattle.shape.specs.Walk.{whole_walk}
use Rattle.shape.proofs.Loops.{begin, forward, turn, done, ill}
use Rattle.strict.specs.Strict.{found, told, of_walk}
use Rattle.strict.proofs.Faults.{fault_on, fault_end}
use Rattle.strict.proofs.first_fault.Goals as goal

pub loop-v-init : goal.loop-v-init
unfolding found
loop-v-init c = begin _ _ _ (length-replicate {A = Frame} frames no_frame) c.start-w.ensures refl

pub or_fault-found-requires : goal.or_fault-found-requires
or_fault-found-requires c = rw c.number_room-count.ensures at (forward c.loop-v.invariant c.step-s.ensures c.in-Node.is tt).numbers

pub loop-v-smaller-in-Node : goal.loop-v-smaller-in-Node
loop-v-smaller-in-Node c = (forward c.loop-v.invariant c.step-s.ensures c.in-Node.is tt).less

pub loop-v-preserved-in-Node : goal.loop-v-preserved-in-Node
loop-v-preserved-in-Node c = turn c.loop-v.invariant c.step-s.ensures c.in-Node.is tt (λ ms e. c.or_fault-found.ensures ∙ rw e (sym (fault_on _ _ ms _)))

pub loop-v-smaller : goal.loop-v-smaller
loop-v-smaller c = (forward c.loop-v.invariant c.step-s.ensures c.in-End.is tt).less

pub loop-v-preserved : goal.loop-v-preserved
loop-v-preserved c = turn c.loop-v.invariant c.step-s.ensures c.in-End.is tt (λ ms e. e ∙ sym (fault_end _ _ ms _ _))

pub returns-in-Done : goal.returns-in-Done
returns-in-Done c = c.told.ensures ∙ ap told c.loop-v.invariant.holds ∙ sym (ap (of_walk _ _) (ap (whole_walk _) (sym c.number_room-count.ensures) ∙ done c.loop-v.invariant c.step-s.ensures c.in-Done.is))

pub returns-in-Ill : goal.returns-in-Ill
returns-in-Ill c = c.ill_formed.ensures ∙ sym (ap (of_walk _ _) (ap (whole_walk _) (sym c.number_room-count.ensures) ∙ ill c.loop-v.invariant c.step-s.ensures c.in-Ill.is))
