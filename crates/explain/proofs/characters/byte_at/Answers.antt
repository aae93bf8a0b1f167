-- `byte_at` meets its contract.
use Rattle.explain.proofs.ShownLaws.{byte_in, byte_out}
use Rattle.explain.proofs.characters.byte_at.Goals as goal

pub returns-then-i-bytes : goal.returns-then-i-bytes
returns-then-i-bytes c = byte_in _ _ c.if-i-bytes.true

pub returns-else-i-bytes : goal.returns-else-i-bytes
returns-else-i-bytes c = byte_out _ _ c.if-i-bytes.false
