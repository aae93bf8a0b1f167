-- `by_looks` takes the token at the cursor, whichever of the three is shown.
use Rattle.tokens.proofs.Looked.{looked}
use Rattle.tokens.proofs.ways.by_looks.Goals as goal

pub returns : goal.returns
returns g c = λ text looks takes. looked text _ _ _ _ (looks _ _ c.look-first.ensures) (looks _ _ c.look-second.ensures) (takes _ _ c.take.ensures) _ _ c.shown.ensures
