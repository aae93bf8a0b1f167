-- `wkt_c::doorhollow_read` meets its contract.
use mathlib.Core.Path.{refl, ap, ◌∙◌}
use Rattle.c_answers.specs.Answers.{read_places}
use Rattle.wkt_c.proofs.doorhollow_read.Goals as goal

pub returns : goal.returns
returns c =
    let left = c.read-a.ensures in
    record { rows = record { answer = refl; nodes = left.nodes; numbers = left.numbers }; places = c.read_places.ensures ∙ ap read_places left.answer }
