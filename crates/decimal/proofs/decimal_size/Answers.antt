-- `decimal::decimal_size` meets its contract: what is kept of its digits comes to its size.
use native.Mathlib.Omega.{arith}
use Rattle.decimal.proofs.Scales.{first_inside, first_later, all_later, all_inside, no_digit, no_exponent, decimal_yes, size_far, size_lowered, size_raised}
use Rattle.decimal.proofs.Texts.{exponent_says}
use Rattle.decimal.proofs.decimal_size.Goals as goal

pub keep_digits-all-requires : goal.keep_digits-all-requires
keep_digits-all-requires c = let k = c.keep_digits-whole in
    let f = c.after_point-first in
    let later = first_later c.args.w.now c.args.from k.result k.ensures f.result f.ensures in
    (k.ensures.value, omega (arith, k.ensures.dropped, later), first_inside _ _ _ k.ensures _ f.ensures)

pub returns-in_default : goal.returns-in_default
returns-in_default c = no_exponent _ _ _ c.keep_digits-whole.ensures _ c.after_point-first.ensures _ c.keep_digits-all.ensures c.in_default.ensures

pub returns-then-exponent-gt-EXPONENT_LIMIT : goal.returns-then-exponent-gt-EXPONENT_LIMIT
returns-then-exponent-gt-EXPONENT_LIMIT c = (decimal_yes _ _ _ c.keep_digits-whole.ensures _ c.after_point-first.ensures _ c.keep_digits-all.ensures _ c.in-Some.ensures c.if-not-has_digit.false, size_far _ _ _ c.keep_digits-whole.ensures _ c.after_point-first.ensures _ c.keep_digits-all.ensures _ (exponent_says _ _ c.in-Some.ensures) c.if-exponent-gt-EXPONENT_LIMIT.true)

pub overflow_add-above : goal.overflow_add-above
overflow_add-above c = omega (arith, c.keep_digits-all.ensures.dropped, all_inside c.args.w.now c.args.from c.keep_digits-whole.result c.keep_digits-whole.ensures c.after_point-first.result c.after_point-first.ensures c.keep_digits-all.result c.keep_digits-all.ensures)

pub overflow_sub-below : goal.overflow_sub-below
overflow_sub-below c = all_later _ _ _ c.keep_digits-whole.ensures _ c.after_point-first.ensures _ c.keep_digits-all.ensures

pub overflow_add-below : goal.overflow_add-below
overflow_add-below c = omega (arith, all_inside c.args.w.now c.args.from c.keep_digits-whole.result c.keep_digits-whole.ensures c.after_point-first.result c.after_point-first.ensures c.keep_digits-all.result c.keep_digits-all.ensures, c.if-exponent-gt-EXPONENT_LIMIT.false)

pub overflow_add-above-else-exponent : goal.overflow_add-above-else-exponent
overflow_add-above-else-exponent c = omega (arith, c.keep_digits-all.ensures.dropped, all_inside c.args.w.now c.args.from c.keep_digits-whole.result c.keep_digits-whole.ensures c.after_point-first.result c.after_point-first.ensures c.keep_digits-all.result c.keep_digits-all.ensures, c.if-exponent-gt-EXPONENT_LIMIT.false)

pub returns-then-exponent : goal.returns-then-exponent
returns-then-exponent c = (decimal_yes _ _ _ c.keep_digits-whole.ensures _ c.after_point-first.ensures _ c.keep_digits-all.ensures _ c.in-Some.ensures c.if-not-has_digit.false, size_lowered _ _ _ c.keep_digits-whole.ensures _ c.after_point-first.ensures _ c.keep_digits-all.ensures _ (exponent_says _ _ c.in-Some.ensures) c.if-exponent-gt-EXPONENT_LIMIT.false _ c.if-exponent.true c.size_of.ensures)

pub returns-else-exponent : goal.returns-else-exponent
returns-else-exponent c = (decimal_yes _ _ _ c.keep_digits-whole.ensures _ c.after_point-first.ensures _ c.keep_digits-all.ensures _ c.in-Some.ensures c.if-not-has_digit.false, size_raised _ _ _ c.keep_digits-whole.ensures _ c.after_point-first.ensures _ c.keep_digits-all.ensures _ (exponent_says _ _ c.in-Some.ensures) c.if-exponent-gt-EXPONENT_LIMIT.false _ c.if-exponent.false c.size_of-else-exponent.ensures)

pub returns-then-not-has_digit : goal.returns-then-not-has_digit
returns-then-not-has_digit c = no_digit _ _ _ c.keep_digits-whole.ensures _ c.after_point-first.ensures _ c.keep_digits-all.ensures c.if-not-has_digit.true
