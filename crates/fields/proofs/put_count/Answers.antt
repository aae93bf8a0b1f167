-- `fields::put_count` meets its contract: the bytes put so far stand after those that are still to be put.
use mathlib.Core.Path.{refl, sym, ◌∙◌}
use Prim.Native.Nat.{◌≤◌}
use native.Mathlib.Omega.{arith}
use lib.ListN.{length, length-set}
use Rattle.fields.proofs.Put.{count_on, count_none, count_all, two_put, four_put}
use Rattle.fields.proofs.put_count.Goals as goal

pub returns-then-len-eq-TWO : goal.returns-then-len-eq-TWO
returns-then-len-eq-TWO c = two_put c.args.bytes.now c.args.count c.if-len-eq-TWO.true c.put_two.ensures

pub returns-then-len-eq-FOUR : goal.returns-then-len-eq-FOUR
returns-then-len-eq-FOUR c = four_put c.args.bytes.now c.args.count c.if-len-eq-FOUR.true c.put_two-then-len-eq-FOUR.ensures c.put_two-then-len-eq-FOUR-2.ensures

pub loop-i-init : goal.loop-i-init
loop-i-init c = (refl, count_none c.args.bytes.now c.args.count)

pub loop-i-preserved : goal.loop-i-preserved
loop-i-preserved c =
    let v = c.loop-i.invariant in
    let h : c.loop-i.i ≤ length c.loop-i.bytes = omega arith in
    (rw length-set v.0, count_on _ _ _ c.loop-i-test.true h ∙ v.1)

pub returns : goal.returns
returns c = sym (count_all _ c.loop-i.rest _ c.loop-i-test.false) ∙ c.loop-i.invariant.1
