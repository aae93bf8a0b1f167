-- `number::are_digits` meets its contract: `all` is whether the first bytes are digits.
use mathlib.Core.Path.{ap, ◌∙◌}
use lib.Seq.{take_all}
use Rattle.lists.specs.Lists.{every}
use Rattle.scan.specs.Bytes.{is_digit}
use Rattle.number.proofs.Fours.{every_first, every_on}
use Rattle.number.proofs.are_digits.Goals as goal

pub loop-b-init : goal.loop-b-init
loop-b-init c = every_first c.args.few.now

pub loop-b-preserved : goal.loop-b-preserved
loop-b-preserved c = every_on c.args.few.now c.loop-b.b-index c.loop-b-test.true c.loop-b.invariant c.is_digit-all.ensures

pub returns : goal.returns
returns c = c.loop-b.invariant ∙ ap (every is_digit) (take_all c.loop-b.b-index c.args.few.now c.loop-b-test.false)
