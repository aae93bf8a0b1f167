-- `wkt_c::move_stored` meets its contract, over both versions.
use mathlib.Core.Path.{refl, ap, ◌∙◌}
use Rattle.c_answers.specs.Answers.{move_places}
use Rattle.wkt_c.proofs.move_stored.Goals as goal

pub returns : goal.returns
returns c =
    let left = c.move_between-a.ensures in
    record { left = record { answer = refl; nodes = left.nodes; numbers = left.numbers; output = left.output }; places = c.move_places.ensures ∙ ap move_places left.answer }
