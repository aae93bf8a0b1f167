-- `sorts::take` meets its contract.
use Rattle.tokenizer.specs.Tokens.{take_held}
use Rattle.sorts.specs.Taken.{taken_at}
use Rattle.sorts.proofs.take.Goals as goal

pub returns-in-Nothing : goal.returns-in-Nothing
unfolding taken_at
returns-in-Nothing c = rw c.in-Nothing.is c.take_at.ensures

pub returns-in-NoToken : goal.returns-in-NoToken
unfolding taken_at take_held
returns-in-NoToken c = rw c.in-NoToken.is c.told.ensures

pub returns-in-BadNumber : goal.returns-in-BadNumber
unfolding taken_at take_held
returns-in-BadNumber c = rw c.in-BadNumber.is c.told-in-BadNumber.ensures

pub returns-in-Is : goal.returns-in-Is
unfolding taken_at take_held
returns-in-Is c = rw c.in-Is.is c.told-in-Is.ensures
