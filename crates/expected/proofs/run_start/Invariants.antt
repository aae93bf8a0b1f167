-- What `expected::run_start` keeps true in its loop: the run that ends before `i` begins where the one before `place` does.
use Rattle.std.proofs.Common.{◌≡◌}
use Rattle.expected.specs.Expected.{run_start}
use Rattle.expected.proofs.run_start.Given as goal

abbrev pub invariant-loop-i : goal.invariant-loop-i
invariant-loop-i l = run_start l.text l.i ≡ run_start l.text l.place
