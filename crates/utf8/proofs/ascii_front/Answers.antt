-- Past the chunks that are all ASCII the answer stays.
use native.Mathlib.Omega.{arith}
use Prim.Native.Nat.{◌/◌}
use lib.ListN.{length}
use Rattle.scan.specs.Front.{rest}
use Rattle.utf8.proofs.Chunks.{chunks}
use Rattle.utf8.proofs.ascii_front.Goals as goal

pub returns : goal.returns
unfolding rest
returns c = rw (c.ascii_chunks.ensures, c.as_chunks.ensures.front) (chunks 64 (length c.args.text.now / 64) c.args.text.now (omega arith))
