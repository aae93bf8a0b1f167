-- `fields::count_in` meets its contract: the count is what the bytes passed say, as far as it fits.
use mathlib.Core.Path.{◌≡◌, refl}
use lib.ListN.{take}
use lib.Seq.{take_all}
use Rattle.fields.specs.Counts.{count_after}
use Rattle.fields.proofs.Counts.{kept_on, two_count, four_count}
use Rattle.fields.proofs.count_in.Goals as goal

pub returns-then-len-eq-TWO : goal.returns-then-len-eq-TWO
returns-then-len-eq-TWO c = two_count _ c.if-len-eq-TWO.true c.two_at.ensures.0 c.two_at.ensures.1

pub returns-then-len-eq-FOUR : goal.returns-then-len-eq-FOUR
returns-then-len-eq-FOUR c = four_count _ c.if-len-eq-FOUR.true c.two_at-then-len-eq-FOUR.ensures.0 c.two_at-then-len-eq-FOUR.ensures.1 c.two_at-then-len-eq-FOUR-2.ensures.0 c.two_at-then-len-eq-FOUR-2.ensures.1

pub loop-b-init : goal.loop-b-init
unfolding count_after
loop-b-init c = refl

pub loop-b-preserved : goal.loop-b-preserved
loop-b-preserved c = kept_on _ _ _ _ c.loop-b-test.true refl (c.type_inv.bytes c.loop-b.b-index).fits c.loop-b.invariant

pub returns : goal.returns
returns c =
    let e : take c.loop-b.b-index c.args.bytes.now ≡ c.args.bytes.now = take_all c.loop-b.b-index c.args.bytes.now c.loop-b-test.false in
    rw e at c.loop-b.invariant
