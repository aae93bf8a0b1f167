-- `sorts::told` meets its contract.
use Rattle.sorts.specs.Taken.{told}
use Rattle.sorts.proofs.told.Goals as goal

pub returns-in-NoToken : goal.returns-in-NoToken
unfolding told
returns-in-NoToken c = rw c.in-NoToken.is c.mark.ensures

pub returns-in-BadNumber : goal.returns-in-BadNumber
unfolding told
returns-in-BadNumber c = rw c.in-BadNumber.is c.mark-in-BadNumber.ensures

pub returns-in-ParenOpen : goal.returns-in-ParenOpen
unfolding told
returns-in-ParenOpen c = rw (c.in-Is.is, c.in-ParenOpen.is) c.mark-in-ParenOpen.ensures

pub returns-in-ParenClose : goal.returns-in-ParenClose
unfolding told
returns-in-ParenClose c = rw (c.in-Is.is, c.in-ParenClose.is) c.mark-in-ParenClose.ensures

pub returns-in-Comma : goal.returns-in-Comma
unfolding told
returns-in-Comma c = rw (c.in-Is.is, c.in-Comma.is) c.mark-in-Comma.ensures

pub returns-in-Number : goal.returns-in-Number
unfolding told
returns-in-Number c = rw (c.in-Is.is, c.in-Number.is) c.spelt.ensures

pub returns-in-Word : goal.returns-in-Word
unfolding told
returns-in-Word c = rw (c.in-Is.is, c.in-Word.is) c.spelt-in-Word.ensures
