-- `put_told` meets its contract: the message alone where nothing was expected, else the line of what was.
use borrow.Author.Tests.{ne_eqb}
use Rattle.messages.specs.Complaint.{told_line}
use Rattle.messages.proofs.put_told.Goals as goal

pub returns-then-expected-eq0 : goal.returns-then-expected-eq0
unfolding told_line
returns-then-expected-eq0 c = rw c.if-expected-eq0.true c.put_message.ensures

pub returns-else-expected-eq0 : goal.returns-else-expected-eq0
unfolding told_line
returns-else-expected-eq0 c = rw (ne_eqb _ 0 c.if-expected-eq0.false) c.put_expected.ensures
