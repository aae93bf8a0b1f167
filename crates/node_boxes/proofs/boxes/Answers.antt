-- `node_boxes::boxes` meets its contract: by the table's room, whether the rows are whole, and what is found on the way through them.
use mathlib.Core.Path.{ap, sym, ◌∙◌}
use Prim.Native.Nat.{ℕ, ◌*◌}
use native.Mathlib.Omega.{arith}
use Rattle.bounds.specs.Bounds.{cleared}
use Rattle.node_boxes.proofs.Whole.{ill_refused, not_whole, filled_refused, filled_boxed}
use Rattle.node_boxes.proofs.boxes.Goals as goal

pub returns-then-not-are_whole : goal.returns-then-not-are_whole
returns-then-not-are_whole c = ill_refused _ _ _ _ _ _ (not_whole _ _ _ (sym c.are_whole.ensures ∙ c.if-not-are_whole.true)) c.refuse.ensures

pub returns-then-found-ne0 : goal.returns-then-found-ne0
returns-then-found-ne0 c = filled_refused _ _ _ _ _ _ _ _ (sym c.are_whole.ensures ∙ c.if-not-are_whole.false) (omega (arith, c.if-table-rows.false, c.node_room-rows.ensures)) c.fill-found.ensures c.if-found-ne0.true c.fill-found.auto.table c.refuse-then-found-ne0.ensures

pub returns : goal.returns
returns c = filled_boxed _ _ _ _ _ _ _ (sym c.are_whole.ensures ∙ c.if-not-are_whole.false) (omega (arith, c.if-table-rows.false, c.node_room-rows.ensures)) c.fill-found.ensures c.if-found-ne0.false (c.clear_any.ensures ∙ ap (cleared _) (ap (λ (n : ℕ). n * 5) c.node_room-rows.ensures))
