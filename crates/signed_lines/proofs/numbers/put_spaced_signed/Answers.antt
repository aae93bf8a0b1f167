-- `put_spaced_signed` meets its contract: a space is put, and then a number.
use Rattle.signed_lines.proofs.Sizes.{back}
use Rattle.signed_lines.proofs.Pieces.{after_space}
use Rattle.signed_lines.specs.Signed.{signed}
use Rattle.signed_lines.proofs.numbers.put_spaced_signed.Goals as goal

pub returns : goal.returns
returns c = after_space signed c.args.number (back _ c.ranges.number) c.put.ensures c.put_signed.ensures
