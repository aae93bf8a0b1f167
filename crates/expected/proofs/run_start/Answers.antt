-- `expected::run_start` meets its contract.
use Rattle.std.proofs.Common.{rules, arith}
use Rattle.expected.proofs.Laws.{start_past, start_on, start_stop, start_none}
use Rattle.expected.proofs.run_start.Goals as goal

pub returns-then-text-place : goal.returns-then-text-place
returns-then-text-place c = start_past _ _ (search rules)

pub returns-then-is_stop : goal.returns-then-is_stop
returns-then-is_stop c = grind (arith, start_stop)

pub loop-i-preserved : goal.loop-i-preserved
loop-i-preserved c = grind (arith, start_on)

pub returns : goal.returns
returns c = grind (arith, start_none)
