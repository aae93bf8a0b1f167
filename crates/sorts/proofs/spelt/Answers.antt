-- `sorts::spelt` meets its contract.
use Rattle.sorts.proofs.spelt.Goals as goal

pub returns : goal.returns
returns c = rw (← c.clip-part.ensures)
