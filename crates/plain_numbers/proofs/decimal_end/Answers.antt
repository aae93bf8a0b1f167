-- `plain_numbers::decimal_end` meets its contract.
use Rattle.plain_numbers.proofs.Reading.{no_digits, some_digits}
use Rattle.plain_numbers.proofs.decimal_end.Goals as goal

pub returns-then-whole-first : goal.returns-then-whole-first
returns-then-whole-first c = no_digits _ _ _ _ c.after_minus-first.ensures c.digits_end-whole.ensures c.if-whole-first.true

pub returns : goal.returns
returns c = some_digits _ _ _ _ c.after_minus-first.ensures c.digits_end-whole.ensures c.if-whole-first.false c.fraction_end.ensures
