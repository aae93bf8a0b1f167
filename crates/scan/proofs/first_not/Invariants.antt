-- What `scan::first_not` keeps true in its loop.
use Rattle.std.proofs.Common.{◌≡◌, ℕ, Bool}
use Rattle.scan.specs.Runs.{Tells, first_not}
use Rattle.scan.proofs.first_not.Given as goal

abbrev pub invariant-loop-i : goal.invariant-loop-i
invariant-loop-i g l = (p : ℕ → Bool) → Tells (goal.F-post g l.test) p → first_not p l.text l.i ≡ first_not p l.text l.from
