-- `pieces::put_number` meets its contract: the byte before it, and the number's text, with the plus or without.
use Rattle.pieces.proofs.Canonical.{number_plus, number_bare}
use Rattle.pieces.proofs.Pieces.{puts_on, puts_one, puts_as}
use Rattle.pieces.proofs.put_number.Goals as goal

pub returns-then-needs_plus : goal.returns-then-needs_plus
returns-then-needs_plus c = puts_as (puts_on c.put_byte-q.ensures (puts_one c.put_led.ensures)) (number_plus _ c.number_text-w.ensures c.needs_plus.ensures c.if-needs_plus.true)

pub returns : goal.returns
returns c = puts_as (puts_one c.put_led-2.ensures) (number_bare _ c.number_text-w.ensures c.needs_plus.ensures c.if-needs_plus.false)
