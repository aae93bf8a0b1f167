-- `decimal::all_digits` meets its contract: those from i on are digits if all are, and the chain tells them.
use mathlib.Core.Path.{◌≡◌, sym, ap, ◌∙◌}
use mathlib.Core.Bool.{true}
use Prim.Native.Nat.{ℕ, ◌<◌, ◌-◌}
use borrow.Author.Rules.{rules}
use lib.ListN.{length, get_or, drop, take}
use Rattle.std.specs.Prelude.{◌↔◌}
use Rattle.lists.specs.Lists.{every}
use Rattle.scan.specs.Bytes.{is_digit}
use Rattle.decimal.proofs.Loops.{told_every, sliced_all, digits_none, four_stop, four_on}
use Rattle.decimal.proofs.all_digits.Goals as goal

pub loop-i-init : goal.loop-i-init
loop-i-init c = digits_none _ _ c.requires

pub returns-then-not-are_digits : goal.returns-then-not-are_digits
returns-then-not-are_digits c = four_stop c.loop-i.invariant c.loop-i-test.true (sym c.are_digits.ensures ∙ c.if-not-are_digits.true)

pub loop-i-preserved : goal.loop-i-preserved
loop-i-preserved c = four_on c.loop-i.invariant c.loop-i-test.true (sym c.are_digits.ensures ∙ c.if-not-are_digits.false)

pub returns : goal.returns
returns c =
    let l = take (length c.args.w.now - c.loop-i.i) (drop c.loop-i.i c.args.w.now) in
    let h : (c.all.result ≡ true) ↔ ((k : ℕ) → k < length l → is_digit (get_or l k 0) ≡ true) = search rules in
    told_every is_digit l c.all.result h ∙ ap (every is_digit) (sliced_all c.args.w.now c.loop-i.i) ∙ c.loop-i.invariant.same
