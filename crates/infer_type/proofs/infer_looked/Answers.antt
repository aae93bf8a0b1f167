-- `infer_type::infer_looked` meets its contract: a law of `Infer` for each return; the scan stops between the start and the end.
use mathlib.Core.Path.{◌∙◌}
use native.Mathlib.Omega.{arith}
use Rattle.infer_type.proofs.Infer.{start_stop, stop_fits, unopened, opened, wide}
use Rattle.infer_type.proofs.infer_looked.Goals as goal

pub slice_bounds-part-count : goal.slice_bounds-part-count
slice_bounds-part-count c = start_stop _ _ _ c.trim_start-start.ensures c.looked_end-end.ensures

pub slice_bounds-part-start : goal.slice_bounds-part-start
slice_bounds-part-start c = omega (arith, start_stop _ _ _ c.trim_start-start.ensures c.looked_end-end.ensures)

pub slice_bounds-part-end : goal.slice_bounds-part-end
slice_bounds-part-end c = omega (arith, stop_fits _ _ _ c.trim_start-start.ensures c.looked_end-end.ensures)

pub returns-then-end-text : goal.returns-then-end-text
returns-then-end-text c =
    c.infer_without_paren.ensures ∙ unopened _ _ _ c.trim_start-start.ensures c.looked_end-end.ensures c.if-end-text.true

pub bounds-text-end : goal.bounds-text-end
bounds-text-end c =
    omega (arith, stop_fits _ _ _ c.trim_start-start.ensures c.looked_end-end.ensures)

pub returns-then-text-end-eq40 : goal.returns-then-text-end-eq40
returns-then-text-end-eq40 c =
    c.infer_with_paren.ensures ∙ opened _ _ _ c.trim_start-start.ensures c.looked_end-end.ensures c.if-end-text.false c.if-text-end-eq40.true

pub returns-else-text-end-eq40 : goal.returns-else-text-end-eq40
returns-else-text-end-eq40 c =
    c.refuse.ensures ∙ wide _ _ _ c.trim_start-start.ensures c.looked_end-end.ensures c.if-end-text.false c.if-text-end-eq40.false
