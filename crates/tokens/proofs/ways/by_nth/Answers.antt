-- `by_nth` counts the token off.
use Rattle.tokens.proofs.ways.by_nth.Goals as goal

pub returns : goal.returns
returns c = rw c.nth-found.ensures
