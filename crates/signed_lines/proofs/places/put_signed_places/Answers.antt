-- `put_signed_places` meets its contract: place after place is put.
use Rattle.std.proofs.Common.{rules}
use Rattle.signed_lines.proofs.Pieces.{each_none, each_on, each_all}
use Rattle.signed_lines.proofs.places.put_signed_places.Goals as goal

pub loop-n-init : goal.loop-n-init
loop-n-init c = each_none _ _

pub loop-n-preserved : goal.loop-n-preserved
loop-n-preserved c = each_on _ _ c.loop-n-test.true (search rules) c.loop-n.invariant c.put_spaced_signed.ensures

pub returns : goal.returns
returns c = each_all c.args.table.now _ _ _ c.min.ensures c.loop-n-test.false c.loop-n.invariant
