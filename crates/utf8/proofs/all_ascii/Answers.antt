-- The greatest byte is ASCII where all are.
use mathlib.Core.Path.{◌≡◌}
use Prim.Native.Nat.{ℕ, max}
use Rattle.std.specs.List.{fold}
use borrow.Author.Rules.{rules}
use Rattle.utf8.proofs.Chunks.{greatest}
use Rattle.utf8.proofs.all_ascii.Goals as goal

pub returns : goal.returns
returns c =
    let most : c.fold.result ≡ fold (λ (m b : ℕ). max m b) 0 c.args.chunk.now = search rules in
    rw most (greatest c.args.chunk.now 0 128)
