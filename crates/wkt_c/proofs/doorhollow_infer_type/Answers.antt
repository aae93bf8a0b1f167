-- `wkt_c::doorhollow_infer_type` meets its contract.
use mathlib.Core.Path.{ap, ◌∙◌}
use Rattle.c_answers.specs.Answers.{infer_places}
use Rattle.wkt_c.proofs.doorhollow_infer_type.Goals as goal

pub returns : goal.returns
returns c =
    c.infer_places.ensures ∙ ap infer_places c.infer_type-a.ensures
