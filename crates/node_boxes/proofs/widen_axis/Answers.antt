-- `node_boxes::widen_axis` meets its contract: the low and the high of the axis are taken, and those of the other stay.
use mathlib.Core.Path.{◌∙◌}
use mir.Syntax.{w64}
use mir.Val.{SFits}
use borrow.Author.Rules.{rules}
use Rattle.std.proofs.lemmas.Int.{to_z-of_z}
use Rattle.bounds.proofs.Boxes.{same_box, lower_is, higher_is}
use Rattle.node_boxes.proofs.Numbers.{widened_x, widened_y}
use Rattle.node_boxes.proofs.widen_axis.Goals as goal

pub returns-then-axis-eq0 : goal.returns-then-axis-eq0
returns-then-axis-eq0 c =
    let b = c.args.b in
    let s = c.args.s in
    let bottom : SFits w64 b.bottom = search rules in
    let top : SFits w64 b.top = search rules in
    same_box
    (lower_is b.left s.low (search rules) (search rules) (record { sfits = c.min.type_inv }) c.min.ensures.value)
    (higher_is b.right s.high (search rules) (search rules) (record { sfits = c.max.type_inv }) c.max.ensures.value)
    (to_z-of_z w64 b.bottom bottom)
    (to_z-of_z w64 b.top top)
    ∙ widened_x b s.low s.high c.args.axis c.if-axis-eq0.true

pub returns-else-axis-eq0 : goal.returns-else-axis-eq0
returns-else-axis-eq0 c =
    let b = c.args.b in
    let s = c.args.s in
    let left : SFits w64 b.left = search rules in
    let right : SFits w64 b.right = search rules in
    same_box
    (to_z-of_z w64 b.left left)
    (to_z-of_z w64 b.right right)
    (lower_is b.bottom s.low (search rules) (search rules) (record { sfits = c.min-else-axis-eq0.type_inv }) c.min-else-axis-eq0.ensures.value)
    (higher_is b.top s.high (search rules) (search rules) (record { sfits = c.max-else-axis-eq0.type_inv }) c.max-else-axis-eq0.ensures.value)
    ∙ widened_y b s.low s.high c.args.axis c.if-axis-eq0.false
