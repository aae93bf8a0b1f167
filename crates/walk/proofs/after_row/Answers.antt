-- `walk::after_row` meets its contract: by whether a row is wanted, whether it can be counted, and whether it is met.
use mathlib.Core.Path.{refl, sym, ◌∙◌}
use native.Mathlib.Omega.{arith}
use Rattle.walk.proofs.Wants.{wants_below}
use Rattle.walk.proofs.Steps.{none_wanted, not_counted, has_child, enters}
use Rattle.walk.proofs.after_row.Goals as goal

pub returns-in_err-top : goal.returns-in_err-top
returns-in_err-top c = rw c.from_residual.ensures (none_wanted _ _ _ _ (sym c.wanting.ensures ∙ c.in_err-top.was))

pub returns-then-w-eq18446744073709551615 : goal.returns-then-w-eq18446744073709551615
returns-then-w-eq18446744073709551615 c = not_counted _ _ _ _ _ (sym c.wanting.ensures ∙ c.in_ok-top.was) (omega (arith, c.if-w-eq18446744073709551615.true))

pub offset_bounds-frames-top : goal.offset_bounds-frames-top
offset_bounds-frames-top c = let l : _ = (wants_below _ c.told-frames (sym c.wanting.ensures ∙ c.in_ok-top.was)).inside in omega (arith, l)

pub bounds-frames-top : goal.bounds-frames-top
bounds-frames-top c = (wants_below _ c.told-frames (sym c.wanting.ensures ∙ c.in_ok-top.was)).inside

pub meet-requires : goal.meet-requires
meet-requires c = has_child _ c.told-frames _ _ _ (sym c.wanting.ensures ∙ c.in_ok-top.was) (omega (arith, c.if-w-eq18446744073709551615.false)) _ refl

pub returns : goal.returns
returns c = c.meet.ensures ∙ enters _ c.told-frames _ _ _ (sym c.wanting.ensures ∙ c.in_ok-top.was) (omega (arith, c.if-w-eq18446744073709551615.false)) _ refl _
