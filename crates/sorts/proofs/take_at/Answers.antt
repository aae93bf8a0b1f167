-- `sorts::take_at` meets its contract.
use Rattle.tokenizer.specs.Tokens.{take_held}
use Rattle.sorts.specs.Taken.{taken_at}
use Rattle.sorts.proofs.take_at.Goals as goal

pub returns : goal.returns
unfolding taken_at take_held
returns c = rw (← c.read_at-read.ensures) c.told.ensures
