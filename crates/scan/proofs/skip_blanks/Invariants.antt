-- What `scan::skip_blanks` keeps true in its loops, and what falls.
use mathlib.Core.Path.{◌≡◌}
use Prim.Native.Nat.{◌-◌}
use lib.ListN.{length}
use Rattle.scan.specs.Bytes.{is_blank}
use Rattle.scan.specs.Runs.{first_not}
use Rattle.scan.proofs.skip_blanks.Given as goal

abbrev pub invariant-loop-i : goal.invariant-loop-i
invariant-loop-i l = first_not is_blank l.text l.i ≡ first_not is_blank l.text l.from

abbrev pub decreases-loop-i : goal.decreases-loop-i
decreases-loop-i l = length l.text - l.i
