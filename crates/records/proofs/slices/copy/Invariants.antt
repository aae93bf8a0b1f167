-- What `records::copy` keeps true in its loop: so many places are filled.
use Rattle.std.proofs.Common.{◌≡◌}
use Rattle.records.specs.Records.{filled}
use Rattle.records.proofs.slices.copy.Given as goal

abbrev pub invariant-loop-i : goal.invariant-loop-i
invariant-loop-i l = l.slice ≡ filled l.bytes l.i l.initial.slice
