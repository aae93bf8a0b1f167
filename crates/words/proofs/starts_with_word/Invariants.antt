-- What `words::starts_with_word` keeps true in its loop.
use mathlib.Core.Path.{◌≡◌}
use Prim.Native.Nat.{◌≤◌}
use lib.ListN.{length, drop}
use Rattle.words.specs.Words.{starts_word}
use Rattle.words.proofs.starts_with_word.Given as goal

abbrev pub invariant-loop-i : goal.invariant-loop-i
invariant-loop-i l = (length l.name ≤ length l.w) × (starts_word (drop l.i l.w) (drop l.i l.name) ≡ starts_word l.w l.name)
