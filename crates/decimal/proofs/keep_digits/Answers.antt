-- `decimal::keep_digits` meets its contract: the digits before the byte at hand are kept, and those from the limit on are told.
use mathlib.Core.Path.{sym, ap, ◌∙◌}
use native.Mathlib.Omega.{arith}
use lib.ListN.{get_or}
use Prim.Native.Nat.{◌+◌}
use native.Mathlib.Nat.{add_assoc}
use Rattle.scan.specs.Bytes.{is_digit}
use Rattle.scan.proofs.Bytes.{digit_high}
use Rattle.decimal.proofs.Loops.{sliced, sliced_end, keeps_end, keeps_stop, keeps_more, keeps_then, keeps_value}
use Rattle.decimal.proofs.keep_digits.Goals as goal

pub loop-b-preserved : goal.loop-b-preserved
loop-b-preserved c =
    let s = sliced c.args.w.now c.args.before.end c.loop-b.b-index c.loop-b-test.true in
    let h = c.loop-b.invariant in
    let below = c.if-k-ge-SIZE_LIMIT.false in
    let t = sym (ap is_digit s.0) ∙ sym c.is_digit.ensures ∙ c.if-not-is_digit.false in
    let d = digit_high (get_or c.args.w.now (c.args.before.end + c.loop-b.b-index) 0) t in
    rw (s.0, ← add_assoc c.args.before.end c.loop-b.b-index 1) (keeps_more h s.1 _ t (keeps_value c.loop-b.k (get_or c.args.w.now (c.args.before.end + c.loop-b.b-index) 0) below) (omega (arith, below, d)) (omega (arith, h.fewer)))

pub returns-after-loop-b : goal.returns-after-loop-b
returns-after-loop-b c = keeps_end c.loop-b.invariant (sliced_end c.args.w.now c.args.before.end c.loop-b.b-index c.loop-b-test.false)

pub returns-then-not-is_digit : goal.returns-then-not-is_digit
returns-then-not-is_digit c =
    let s = sliced c.args.w.now c.args.before.end c.loop-b.b-index c.loop-b-test.true in
    keeps_stop c.loop-b.invariant s.1 (sym (ap is_digit s.0) ∙ sym c.is_digit.ensures ∙ c.if-not-is_digit.true)

pub returns-then-k-ge-SIZE_LIMIT : goal.returns-then-k-ge-SIZE_LIMIT
returns-then-k-ge-SIZE_LIMIT c = keeps_then c.loop-b.invariant c.drop_digits.ensures
