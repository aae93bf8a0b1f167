-- `node_boxes::look_at_both` meets its contract: what was made of X, and then of Y.
use mathlib.Core.Path.{sym, ◌∙◌}
use Rattle.std.specs.Prelude.{Ok, Err}
use Rattle.node_boxes.proofs.Loops.{axes_start, axes_on, axes_end}
use Rattle.node_boxes.proofs.look_at_both.Goals as goal
use Rattle.node_boxes.proofs.look_at_both.Goals.{in-Ok, in-Err}

pub loop-axis-init : goal.loop-axis-init
loop-axis-init c = axes_start _ _ _ _ _

pub loop-axis-preserved : goal.loop-axis-preserved
loop-axis-preserved c =
    let inv = c.loop-axis.invariant in
    let told = c.reckon_at-x.ensures in
    let h = c.loop-axis-test.true in
    elim c.match-x.branch [
      | in-Ok w ↦ axes_on inv {x = Ok w.in-Ok.sides} (sym w.in-Ok.is ∙ told) w.s-is (w.around-is ∙ w.widen_axis.ensures) h
      | in-Err w ↦ axes_on inv {x = Err w.in-Err.why} (sym w.in-Err.is ∙ told) (w.s-is ∙ w.without_sides-s.ensures) w.around-is h
    ]

pub returns : goal.returns
returns c = let e = axes_end c.loop-axis.invariant c.loop-axis-test.false in record { seen = e.0; around = e.1 }
