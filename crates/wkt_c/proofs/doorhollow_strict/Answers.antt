-- `wkt_c::doorhollow_strict` meets its contract.
use mathlib.Core.Path.{ap, ◌∙◌}
use Rattle.c_answers.specs.Answers.{strict_places}
use Rattle.wkt_c.proofs.doorhollow_strict.Goals as goal

pub returns : goal.returns
returns c =
    c.strict_places.ensures ∙ ap strict_places c.strict-a.ensures
