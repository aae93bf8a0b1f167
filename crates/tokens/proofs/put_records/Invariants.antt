-- What falls in the loop of `tokens::put_records`.
use Rattle.std.proofs.Common.{◌-◌, length}
use Rattle.tokens.proofs.put_records.Given as goal

abbrev pub decreases-loop-from : goal.decreases-loop-from
decreases-loop-from l = length l.input - l.from
