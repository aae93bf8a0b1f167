-- `put_units` meets its contract: sign, wholes, and what is behind the point.
use Rattle.signed_lines.proofs.Sizes.{back}
use Rattle.signed_lines.proofs.Pieces.{units_put}
use Rattle.signed_lines.proofs.numbers.put_units.Goals as goal

pub returns : goal.returns
returns c = units_put c.args.number (back _ c.ranges.number) c.size_of-size.ensures c.put_sign.ensures c.put_number.ensures c.put_fraction.ensures
