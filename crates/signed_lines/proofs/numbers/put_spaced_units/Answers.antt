-- `put_spaced_units` meets its contract: a space is put, and then units.
use Rattle.signed_lines.proofs.Sizes.{back}
use Rattle.signed_lines.proofs.Pieces.{after_space}
use Rattle.signed_lines.specs.Signed.{units}
use Rattle.signed_lines.proofs.numbers.put_spaced_units.Goals as goal

pub returns : goal.returns
returns c = after_space units c.args.number (back _ c.ranges.number) c.put.ensures c.put_units.ensures
