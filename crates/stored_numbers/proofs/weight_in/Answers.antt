-- `stored_numbers::weight_in` meets its contract. The loop's invariant: the sum is what the bytes so far weigh.
use Rattle.stored_numbers.proofs.Weights.{nothing_weighed, Adds, adds, one_weighed, all_weighed}
use Rattle.stored_numbers.proofs.weight_in.Goals as goal

pub loop-i-init : goal.loop-i-init
loop-i-init c = nothing_weighed _ _ _

pub loop-i-preserved : goal.loop-i-preserved
loop-i-preserved c =
    let added : Adds c.args.text.now c.args.from c.args.len c.loop-i.i c.min-sum.result = rw (c.min-sum.ensures, c.weight_of.ensures, c.requires.2) (adds c.args.text.now c.args.from c.args.len c.loop-i.i c.loop-i-test.true c.requires.0 c.requires.1) in
    one_weighed c.loop-i.invariant c.loop-i-test.true added

pub returns : goal.returns
returns c = all_weighed c.loop-i.invariant c.loop-i-test.false c.requires.0 c.requires.1
