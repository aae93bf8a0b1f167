-- `walk::start` meets its contract: by computation.
use mathlib.Core.Path.{refl}
use Rattle.walk.specs.Walk.{beginning}
use Rattle.walk.proofs.start.Goals as goal

pub returns : goal.returns
unfolding beginning
returns c = refl
