-- `decimal::read_seven` meets its contract: the loop has read the first bytes.
use mathlib.Core.Path.{◌≡◌, subst}
use Prim.Native.Nat.{ℕ}
use native.Mathlib.Omega.{arith}
use lib.ListN.{length}
use Rattle.decimal.proofs.Loops.{SevenSoFar, seven_none, seven_on, seven_high, seven_is, seven_other}
use Rattle.decimal.proofs.read_seven.Goals as goal

pub loop-b-init : goal.loop-b-init
loop-b-init c = seven_none _

pub loop-b-preserved : goal.loop-b-preserved
loop-b-preserved c = seven_on c.loop-b.invariant c.requires c.loop-b-test.true (c.type_inv.seven c.loop-b.b-index).fits c.is_digit-all.ensures

pub overflow_sub-result : goal.overflow_sub-result
overflow_sub-result c =
    let e : c.loop-b.b-index ≡ length c.args.seven.now = omega (arith, c.loop-b.auto.b-index-end, c.loop-b-test.false) in
    seven_high (subst (λ (i : ℕ). SevenSoFar c.args.seven.now c.loop-b.all c.loop-b.raw i) e c.loop-b.invariant) c.requires c.if-all.true

pub returns-then-all : goal.returns-then-all
returns-then-all c =
    let e : c.loop-b.b-index ≡ length c.args.seven.now = omega (arith, c.loop-b.auto.b-index-end, c.loop-b-test.false) in
    seven_is (subst (λ (i : ℕ). SevenSoFar c.args.seven.now c.loop-b.all c.loop-b.raw i) e c.loop-b.invariant) c.requires c.if-all.true

pub returns-else-all : goal.returns-else-all
returns-else-all c =
    let e : c.loop-b.b-index ≡ length c.args.seven.now = omega (arith, c.loop-b.auto.b-index-end, c.loop-b-test.false) in
    seven_other (subst (λ (i : ℕ). SevenSoFar c.args.seven.now c.loop-b.all c.loop-b.raw i) e c.loop-b.invariant) c.requires c.if-all.false
