-- `kinds::width_of` meets its contract: X and Y, and one number more for each of Z and M.
use borrow.Author.Rules.{rules}
use Rattle.kinds.specs.Kinds.{width}
use Rattle.kinds.proofs.width_of.Goals as goal

pub returns : goal.returns
unfolding width
returns c = search rules
