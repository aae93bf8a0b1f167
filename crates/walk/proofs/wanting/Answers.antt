-- `walk::wanting` meets its contract: what is wanted from the first frame on is what is wanted from this one on.
use mathlib.Core.Path.{refl, sym, ◌∙◌}
use Rattle.walk.proofs.Wants.{no_frame_left, wants_here, above_spent, node_spent}
use Rattle.walk.proofs.wanting.Goals as goal

pub returns-then-f : goal.returns-then-f
returns-then-f c = sym (c.loop-at.invariant ∙ wants_here _ _ _ refl c.loop-at-test.true c.if-f.true)

pub returns-then-f-eq-NO_KIND : goal.returns-then-f-eq-NO_KIND
returns-then-f-eq-NO_KIND c = sym (c.loop-at.invariant ∙ above_spent _ _ _ refl c.loop-at-test.true c.if-f.false c.if-f-eq-NO_KIND.true)

pub loop-at-preserved : goal.loop-at-preserved
loop-at-preserved c = c.loop-at.invariant ∙ node_spent _ _ _ refl c.loop-at-test.true c.if-f.false c.if-f-eq-NO_KIND.false

pub returns : goal.returns
returns c = sym (c.loop-at.invariant ∙ no_frame_left _ _ c.loop-at-test.false)
