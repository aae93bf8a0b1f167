-- `infer_type::infer_without_paren` meets its contract: a law of `Infer` for each return; EMPTY lies within the part, and the space before EMPTY.
use mathlib.Core.Path.{sym, ◌∙◌}
use native.Mathlib.Omega.{arith}
use Rattle.infer_type.proofs.Infer.{empty_fits, no_empty, space_fits, no_space_law, spaced_named, spaced_other}
use Rattle.infer_type.proofs.infer_without_paren.Goals as goal

pub returns-then-empty-part : goal.returns-then-empty-part
returns-then-empty-part c = c.refuse.ensures ∙ no_empty _ _ c.find_word-empty.ensures _ c.if-empty-part.true

pub slice_bounds-before-end : goal.slice_bounds-before-end
slice_bounds-before-end c = omega (arith, empty_fits _ _ c.find_word-empty.ensures)

pub returns-then-space-empty : goal.returns-then-space-empty
returns-then-space-empty c =
    c.refuse-then-space-empty.ensures ∙ no_space_law _ _ c.find_word-empty.ensures c.if-empty-part.false _ c.find_word-space.ensures _ c.if-space-empty.true

pub overflow_add-space : goal.overflow_add-space
overflow_add-space c = omega (arith, space_fits _ _ c.find_word-empty.ensures c.if-empty-part.false _ c.find_word-space.ensures c.if-space-empty.false)

pub slice_bounds-dimension_in-count : goal.slice_bounds-dimension_in-count
slice_bounds-dimension_in-count c = omega (arith, space_fits _ _ c.find_word-empty.ensures c.if-empty-part.false _ c.find_word-space.ensures c.if-space-empty.false)

pub slice_bounds-dimension_in-start : goal.slice_bounds-dimension_in-start
slice_bounds-dimension_in-start c = omega (arith, space_fits _ _ c.find_word-empty.ensures c.if-empty-part.false _ c.find_word-space.ensures c.if-space-empty.false)

pub returns-in-Some : goal.returns-in-Some
returns-in-Some c =
    c.accept.ensures
    ∙ spaced_named _ _ c.find_word-empty.ensures c.if-empty-part.false _ c.find_word-space.ensures _ c.if-space-empty.false c.dimension_in-dimension.ensures (sym c.front_of.ensures ∙ c.in-Some.is)

pub returns-in-None : goal.returns-in-None
returns-in-None c =
    c.refuse-in-None.ensures
    ∙ spaced_other _ _ c.find_word-empty.ensures c.if-empty-part.false _ c.find_word-space.ensures _ c.if-space-empty.false c.dimension_in-dimension.ensures (sym c.front_of.ensures ∙ c.in-None.is)
