-- What `utf8::first_ill_formed` keeps true in its loops, and what falls.
use mathlib.Core.Path.{◌≡◌}
use Prim.Native.Nat.{◌+◌, ◌-◌, ◌≤◌}
use lib.ListN.{length}
use Rattle.scan.specs.Front.{rest}
use Rattle.utf8.specs.Utf8.{first_ill}
use Rattle.utf8.proofs.first_ill_formed.Given as goal

abbrev pub invariant-loop-i : goal.invariant-loop-i
invariant-loop-i l = (l.i ≤ length l.text) × (l.i + first_ill (rest l.text l.i) ≡ first_ill l.text)

abbrev pub decreases-loop-i : goal.decreases-loop-i
decreases-loop-i l = length l.text - l.i
