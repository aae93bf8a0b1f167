-- `trimmed_end` meets its contract.
use Rattle.std.proofs.Common.{arith}
use Rattle.line_places.proofs.Turns.{trim_on, trim_stop, trim_end}
use Rattle.line_places.proofs.trimmed_end.Goals as goal

pub returns-then-not-is_break-clause-value : goal.returns-then-not-is_break-clause-value
returns-then-not-is_break-clause-value c = grind (arith, trim_stop)

pub loop-i-preserved : goal.loop-i-preserved
loop-i-preserved c = grind (arith, trim_on)

pub returns-clause-value : goal.returns-clause-value
returns-clause-value c = grind (arith, trim_end)
