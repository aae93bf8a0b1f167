-- `strict::fails_b` meets its contract: by what its two calls tell.
use Rattle.strict.proofs.fails_b.Goals as goal

pub returns : goal.returns
returns c = rw (c.is_ring.ensures, c.is_short.ensures)
