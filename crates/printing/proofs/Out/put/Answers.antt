-- `Out::put` meets its contract: a pen says whether the text had room behind the full bytes.
use Rattle.std.proofs.Common.{rules}
use Rattle.printing.proofs.Buffers.{put_behind, put_over, prints_one}
use Rattle.printing.proofs.Out.put.Goals as goal

pub returns-then-behind : goal.returns-then-behind
returns-then-behind c = prints_one (search rules) (put_over _ c.min-full.ensures c.put-behind.ensures c.if-behind.true (search rules))

pub returns-else-behind : goal.returns-else-behind
returns-else-behind c = prints_one (search rules) (put_behind _ c.min-full.ensures c.put-behind.ensures c.if-behind.false)
