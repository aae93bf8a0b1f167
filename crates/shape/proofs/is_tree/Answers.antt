-- `shape::is_tree` meets its contract: the law of a loop that gives rows.
use mathlib.Core.Path.{◌∙◌}
use native.Mathlib.Omega.{arith}
use lib.ListN.{length-replicate}
use Rattle.nodes.specs.declared.Frame.{Frame}
use Rattle.walk.specs.Walk.{frames, no_frame}
use Rattle.shape.proofs.Loops.{giving_begin, giving_to, giving_ill, giving_last}
use Rattle.shape.proofs.is_tree.Goals as goal

pub loop-i-init : goal.loop-i-init
loop-i-init c = giving_begin _ _ _ (length-replicate {A = Frame} frames no_frame) c.start-w.ensures

pub returns-in_default : goal.returns-in_default
returns-in_default c = giving_ill c.loop-i.invariant _ (rw (c.kind_at.ensures, c.dimension_at.ensures, c.parts_at.ensures)) (omega (arith, c.loop-i-test.true, c.node_room-i-end.ensures)) (omega (arith, c.loop-i-test.true)) c.enter-entered.ensures c.in_default.is

pub loop-i-preserved : goal.loop-i-preserved
loop-i-preserved c = giving_to c.loop-i.invariant _ (rw (c.kind_at.ensures, c.dimension_at.ensures, c.parts_at.ensures)) (omega (arith, c.loop-i-test.true, c.node_room-i-end.ensures)) (omega (arith, c.loop-i-test.true)) c.enter-entered.ensures c.in-Some.is

pub returns : goal.returns
returns c = c.has_ended.ensures ∙ giving_last c.loop-i.invariant (omega (arith, c.loop-i-test.false, c.node_room-i-end.ensures))
