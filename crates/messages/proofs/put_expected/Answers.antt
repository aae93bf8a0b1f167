-- `put_expected` meets its contract: the lines are the definition's.
use Rattle.messages.specs.ExpectedLines.{expected_lines}
use Rattle.messages.proofs.put_expected.Goals as goal

pub returns : goal.returns
unfolding expected_lines
returns c = c.put_line_at.ensures
