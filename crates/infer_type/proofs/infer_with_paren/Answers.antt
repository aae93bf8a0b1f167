-- `infer_type::infer_with_paren` meets its contract: a law of `Infer` for each return; `front_fits` has the name within the part.
use mathlib.Core.Path.{sym, ◌∙◌}
use native.Mathlib.Omega.{arith}
use Rattle.names.proofs.Fronts.{front_fits}
use Rattle.infer_type.proofs.Infer.{opened_named, opened_other}
use Rattle.infer_type.proofs.infer_with_paren.Goals as goal

pub slice_bounds-dimension_in-count : goal.slice_bounds-dimension_in-count
slice_bounds-dimension_in-count c = omega (arith, front_fits _ _ (sym c.front_of.ensures ∙ c.in-Some.is))

pub slice_bounds-dimension_in-start : goal.slice_bounds-dimension_in-start
slice_bounds-dimension_in-start c = omega (arith, front_fits _ _ (sym c.front_of.ensures ∙ c.in-Some.is))

pub returns-in-Some : goal.returns-in-Some
returns-in-Some c =
    c.accept.ensures ∙ opened_named _ _ (sym c.front_of.ensures ∙ c.in-Some.is) c.dimension_in.ensures

pub returns-in-None : goal.returns-in-None
returns-in-None c = c.refuse.ensures ∙ opened_other _ _ (sym c.front_of.ensures ∙ c.in-None.is)
