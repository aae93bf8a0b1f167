-- `wkt_c::doorhollow_write` meets its contract.
use mathlib.Core.Path.{refl, ap, ◌∙◌}
use Rattle.c_answers.specs.Answers.{write_places}
use Rattle.wkt_c.proofs.doorhollow_write.Goals as goal

pub returns : goal.returns
returns c =
    let left = c.write-a.ensures in
    record { bytes = record { answer = refl; bytes = left.bytes }; places = c.write_places.ensures ∙ ap write_places left.answer }
