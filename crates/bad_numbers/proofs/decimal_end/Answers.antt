-- `bad_numbers::decimal_end` meets its contract.
use borrow.Author.Rules.{rules}
use Rattle.bad_numbers.proofs.Scans.{decimal_none, decimal_past, decimal_other, decimal_e}
use Rattle.bad_numbers.proofs.decimal_end.Goals as goal

pub returns-then-not-has_digit : goal.returns-then-not-has_digit
returns-then-not-has_digit c = decimal_none _ _ _ _ _ c.requires c.digits_end-whole.ensures c.after_point-point.ensures c.digits_end-fraction.ensures c.if-not-has_digit.true

pub returns-then-w-fraction : goal.returns-then-w-fraction
returns-then-w-fraction c = decimal_past _ _ _ _ _ c.requires c.digits_end-whole.ensures c.after_point-point.ensures c.digits_end-fraction.ensures c.if-not-has_digit.false c.if-w-fraction.true

pub returns-then-b : goal.returns-then-b
returns-then-b c =
    decimal_e _ _ _ _ _ c.requires c.digits_end-whole.ensures c.after_point-point.ensures c.digits_end-fraction.ensures c.if-not-has_digit.false c.if-b.true (search rules) _ c.after_sign-sign.ensures _ c.digits_end.ensures

pub returns : goal.returns
returns c = decimal_other _ _ _ _ _ c.requires c.digits_end-whole.ensures c.after_point-point.ensures c.digits_end-fraction.ensures c.if-not-has_digit.false c.if-b.false
