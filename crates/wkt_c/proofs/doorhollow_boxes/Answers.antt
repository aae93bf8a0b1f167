-- `wkt_c::doorhollow_boxes` meets its contract.
use mathlib.Core.Path.{ap, ◌∙◌}
use Rattle.c_answers.specs.Answers.{box_places}
use Rattle.wkt_c.proofs.doorhollow_boxes.Goals as goal

pub returns : goal.returns
returns c =
    let left = c.boxes-a.ensures in
    record { table = left.table; places = c.box_places.ensures ∙ ap box_places left.answer }
