-- `headings::opener` meets its contract.
use Rattle.headings.proofs.Heads.{told, open_yes, open_other}
use Rattle.headings.proofs.opener.Goals as goal

pub returns-then-opened : goal.returns-then-opened
returns-then-opened c = open_yes _ _ (rw c.new-cursor.ensures at c.pass_open-opened.ensures) c.if-opened.true

pub empty-requires : goal.empty-requires
empty-requires c = (told _ _ c.take.ensures).fits

pub returns : goal.returns
returns c = open_other _ _ (rw c.new-cursor.ensures at c.pass_open-opened.ensures) c.if-opened.false c.take.ensures c.empty.ensures
