-- `answers::state_of` meets its contract: a new cursor holds nothing.
use Rattle.answers.proofs.state_of.Goals as goal

pub returns : goal.returns
returns c = rw c.new.ensures
