-- `put_pair` meets its contract: its pieces are put one after the other.
use Rattle.signed_lines.proofs.Sizes.{back}
use Rattle.box_lines.proofs.Pieces.{pair_put}
use Rattle.box_lines.proofs.put_pair.Goals as goal

pub returns : goal.returns
returns c = pair_put c.args.low c.args.high (back _ c.ranges.low) (back _ c.ranges.high) c.put_spaced_units.ensures c.put_spaced_units-2.ensures
