-- `decimal::drop_digits` meets its contract: the digits before the byte at hand are told.
use mathlib.Core.Path.{sym, ap, ◌∙◌}
use native.Mathlib.Nat.{add_assoc}
use Rattle.scan.specs.Bytes.{is_digit}
use Rattle.decimal.proofs.Loops.{sliced, sliced_end, keeps_end, keeps_stop, drops_more}
use Rattle.decimal.proofs.drop_digits.Goals as goal

pub loop-b-preserved : goal.loop-b-preserved
loop-b-preserved c =
    let s = sliced c.args.w.now c.args.before.end c.loop-b.b-index c.loop-b-test.true in
    rw (s.0, ← add_assoc c.args.before.end c.loop-b.b-index 1) (drops_more c.loop-b.invariant s.1 (sym (ap is_digit s.0) ∙ sym c.is_digit.ensures ∙ c.if-not-is_digit.false))

pub returns-after-loop-b : goal.returns-after-loop-b
returns-after-loop-b c = keeps_end c.loop-b.invariant.keeps (sliced_end c.args.w.now c.args.before.end c.loop-b.b-index c.loop-b-test.false)

pub returns-then-not-is_digit : goal.returns-then-not-is_digit
returns-then-not-is_digit c =
    let s = sliced c.args.w.now c.args.before.end c.loop-b.b-index c.loop-b-test.true in
    keeps_stop c.loop-b.invariant.keeps s.1 (sym (ap is_digit s.0) ∙ sym c.is_digit.ensures ∙ c.if-not-is_digit.true)
