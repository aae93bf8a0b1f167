-- `put_signed` meets its contract: the sign is put, and then the size.
use Rattle.signed_lines.proofs.Sizes.{back}
use Rattle.signed_lines.proofs.Pieces.{signed_put}
use Rattle.signed_lines.proofs.numbers.put_signed.Goals as goal

pub returns : goal.returns
returns c = signed_put c.args.number (back _ c.ranges.number) c.size_of.ensures c.put_sign.ensures c.put_number.ensures
