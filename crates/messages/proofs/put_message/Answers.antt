-- `put_message` meets its contract: the lines are the definition's.
use Rattle.messages.specs.Messages.{message_lines}
use Rattle.messages.proofs.put_message.Goals as goal

pub returns : goal.returns
unfolding message_lines
returns c = c.put_line_at.ensures
