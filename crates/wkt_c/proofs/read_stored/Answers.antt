-- `wkt_c::read_stored` meets its contract, over both versions.
use mathlib.Core.Path.{refl, ap, ◌∙◌}
use Rattle.c_answers.specs.Answers.{read_places}
use Rattle.wkt_c.proofs.read_stored.Goals as goal

pub returns : goal.returns
returns c =
    let left = c.read-a.ensures in
    record { rows = record { answer = refl; nodes = left.nodes; numbers = left.numbers }; places = c.read_places.ensures ∙ ap read_places left.answer }
