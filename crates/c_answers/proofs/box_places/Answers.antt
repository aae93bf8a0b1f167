-- `c_answers::box_places` meets its contract: each value in its place.
use mathlib.Core.Path.{refl}
use Rattle.c_answers.proofs.box_places.Goals as goal

pub returns : goal.returns
returns c = refl
