-- `c_answers::strict_places` meets its contract: each value in its place.
use mathlib.Core.Path.{refl}
use Rattle.c_answers.proofs.strict_places.Goals as goal

pub returns : goal.returns
returns c = refl
