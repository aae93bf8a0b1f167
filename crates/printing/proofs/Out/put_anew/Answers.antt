-- `Out::put_anew` meets its contract: a pen says whether the text had room at the start.
use Rattle.printing.proofs.Buffers.{anew_first, anew_nowhere}
use Rattle.printing.proofs.Out.put_anew.Goals as goal

pub returns-then-first-clause-holds : goal.returns-then-first-clause-holds
returns-then-first-clause-holds c = anew_nowhere _ c.put-first.ensures c.if-first.true

pub returns-else-first-clause-holds : goal.returns-else-first-clause-holds
returns-else-first-clause-holds c = anew_first _ c.put-first.ensures c.if-first.false
