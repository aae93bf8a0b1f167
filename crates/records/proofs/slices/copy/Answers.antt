-- `copy` meets its contract.
use Rattle.std.proofs.Common.{arith}
use Rattle.records.proofs.Records.{filled_none, filled_on, filled_all}
use Rattle.records.proofs.slices.copy.Goals as goal

pub loop-i-init : goal.loop-i-init
loop-i-init c = filled_none _ _

pub loop-i-preserved : goal.loop-i-preserved
loop-i-preserved c = rw (c.loop-i.invariant, c.u32_at.ensures) (filled_on _ _ _ (omega arith))

pub returns : goal.returns
returns c = filled_all _ _ _ _ (omega arith) (omega arith) c.loop-i.invariant
