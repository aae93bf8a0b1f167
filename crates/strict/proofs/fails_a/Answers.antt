-- `strict::fails_a` meets its contract: by what `is_short` tells.
use Rattle.strict.proofs.fails_a.Goals as goal

pub returns : goal.returns
returns c = rw c.is_short.ensures
