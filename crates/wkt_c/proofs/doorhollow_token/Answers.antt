-- `wkt_c::doorhollow_token` meets its contract.
use mathlib.Core.Path.{ap, ◌∙◌}
use Rattle.token.specs.declared.Read.{Read}
use Rattle.c_answers.specs.Answers.{token_places}
use Rattle.wkt_c.proofs.doorhollow_token.Goals as goal

pub returns : goal.returns
returns c =
    let read = c.read_at-read.ensures in
    (ap (λ (x : Read). x.at) read, c.token_places.ensures ∙ ap (λ (x : Read). token_places x.found) read)
