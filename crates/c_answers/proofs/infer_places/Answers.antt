-- `c_answers::infer_places` meets its contract: each value in its place.
use mathlib.Core.Path.{refl}
use Rattle.c_answers.proofs.infer_places.Goals as goal

pub returns : goal.returns
returns c = refl
