-- `put_rows` meets its contract: no place is used, or some are.
use Rattle.std.proofs.Common.{[], ◌∷◌}
use Rattle.scan.specs.Text.{bytes}
use Rattle.printing.specs.Printing.{spaced}
use Rattle.printing.proofs.Buffers.{prints_then}
use Rattle.records.proofs.Pieces.{each_none, each_on, each_all, none_put, some_put}
use Rattle.records.proofs.lines.put_rows.Goals as goal

pub returns-then-used-eq0 : goal.returns-then-used-eq0
returns-then-used-eq0 c = none_put c.args.slice.now _ c.if-used-eq0.true (prints_then c.put.ensures c.put-then-used-eq0.ensures)

pub loop-n-init : goal.loop-n-init
loop-n-init c = each_none (bytes " ;" ∷ []) spaced _ c.put.ensures

pub loop-n-preserved : goal.loop-n-preserved
loop-n-preserved c = each_on (bytes " ;" ∷ []) spaced _ _ c.loop-n-test.true c.loop-n.invariant c.put_spaced.ensures

pub returns : goal.returns
returns c = some_put c.args.slice.now _ c.if-used-eq0.false (each_all (bytes " ;" ∷ []) spaced c.args.slice.now _ _ _ c.min.ensures c.loop-n-test.false c.loop-n.invariant)
