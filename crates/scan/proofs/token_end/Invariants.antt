-- What `scan::token_end` keeps true in its loops, and what falls.
use mathlib.Core.Path.{◌≡◌}
use Prim.Native.Nat.{◌-◌}
use lib.ListN.{length}
use Rattle.scan.specs.Bytes.{is_inner}
use Rattle.scan.specs.Runs.{first_not}
use Rattle.scan.proofs.token_end.Given as goal

abbrev pub invariant-scan : goal.invariant-scan
invariant-scan l = first_not is_inner l.text l.i ≡ first_not is_inner l.text l.from

abbrev pub decreases-scan : goal.decreases-scan
decreases-scan l = length l.text - l.i
