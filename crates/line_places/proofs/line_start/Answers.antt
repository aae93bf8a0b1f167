-- `line_start` meets its contract.
use Rattle.std.proofs.Common.{arith}
use Rattle.line_places.proofs.Turns.{start_on, start_stop, start_end}
use Rattle.line_places.proofs.line_start.Goals as goal

pub returns-then-is_break-clause-value : goal.returns-then-is_break-clause-value
returns-then-is_break-clause-value c = grind (arith, start_stop)

pub loop-i-preserved : goal.loop-i-preserved
loop-i-preserved c = grind (arith, start_on)

pub returns-clause-value : goal.returns-clause-value
returns-clause-value c = grind (arith, start_end)
