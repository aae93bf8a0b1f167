-- `u32_at` meets its contract: its four bytes are there, or it is 0.
use Rattle.std.proofs.Common.{arith}
use Rattle.console.proofs.Numbers.{u32_cut, u32_whole}
use Rattle.console.proofs.u32_at.Goals as goal

pub returns-then-bytes-lt-U32_BYTES : goal.returns-then-bytes-lt-U32_BYTES
returns-then-bytes-lt-U32_BYTES c = u32_cut _ _ (omega arith)

pub returns-then-bytes-at : goal.returns-then-bytes-at
returns-then-bytes-at c = u32_cut _ _ (omega arith)

pub returns : goal.returns
returns c = u32_whole c.args.bytes.now c.args.at (omega arith) c.from_le_bytes.ensures
