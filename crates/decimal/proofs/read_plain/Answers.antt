-- `decimal::read_plain` meets its contract: by its digits, its point and the digits behind that.
use Prim.Native.Nat.{◌+◌}
use native.Mathlib.Omega.{arith}
use Rattle.scan.specs.Front.{rest}
use Rattle.decimal.proofs.Plainly.{told_small, told_whole, told_point, units_small}
use Rattle.decimal.proofs.read_plain.Goals as goal

pub overflow_mul-units : goal.overflow_mul-units
overflow_mul-units c = omega (arith, told_small c.args.w.now c.after_sign-from.result c.after_sign-from.ensures c.if-len-from.false c.window_end.result c.read_few-whole.result.end c.read_few-whole.result.value c.window_end.ensures c.read_few-whole.ensures.value c.read_few-whole.ensures.end)

pub returns-then-len-at : goal.returns-then-len-at
returns-then-len-at c = told_whole _ _ c.after_sign-from.ensures c.if-len-from.false _ _ _ c.window_end.ensures c.read_few-whole.ensures.value c.read_few-whole.ensures.end c.if-len-at.true

pub overflow_add-size : goal.overflow_add-size
overflow_add-size c =
    let units = units_small c.in_ok-fraction.fraction (rest c.args.w.now (c.read_few-whole.result.end + 1)) c.in_ok-fraction.ensures in
    omega (arith, told_small c.args.w.now c.after_sign-from.result c.after_sign-from.ensures c.if-len-from.false c.window_end.result c.read_few-whole.result.end c.read_few-whole.result.value c.window_end.ensures c.read_few-whole.ensures.value c.read_few-whole.ensures.end, units)

pub returns : goal.returns
returns c = told_point _ _ c.after_sign-from.ensures c.if-len-from.false _ _ _ c.window_end.ensures c.read_few-whole.ensures.value c.read_few-whole.ensures.end c.if-len-at.false c.if-w-at.false _ c.in_ok-fraction.ensures
