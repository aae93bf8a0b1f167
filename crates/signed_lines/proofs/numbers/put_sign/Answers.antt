-- `put_sign` meets its contract: a minus, or nothing.
use Rattle.signed_lines.proofs.Pieces.{sign_put, no_sign}
use Rattle.signed_lines.proofs.numbers.put_sign.Goals as goal

pub returns-then-number-lt0 : goal.returns-then-number-lt0
returns-then-number-lt0 c = sign_put c.args.number c.ranges.number c.if-number-lt0.true c.put.ensures

pub returns-else-number-lt0 : goal.returns-else-number-lt0
returns-else-number-lt0 c = no_sign c.args.number c.ranges.number _ c.if-number-lt0.false
