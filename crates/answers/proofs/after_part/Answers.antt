-- `answers::after_part` meets its contract: it passes a comma from a new cursor at the end of the part.
use Rattle.answers.proofs.after_part.Goals as goal

pub returns : goal.returns
returns c = rw c.new-cursor.ensures at c.pass_comma.ensures
