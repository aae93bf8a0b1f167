-- What `fields::put_count` keeps true in its loop.
use mathlib.Core.Path.{◌≡◌}
use mathlib.Core.List.{◌++◌}
use lib.ListN.{length, drop}
use Rattle.fields.specs.Counts.{count_bytes}
use Rattle.fields.proofs.put_count.Given as goal

abbrev pub invariant-loop-i : goal.invariant-loop-i
invariant-loop-i l = (length l.bytes ≡ length l.initial.bytes) × (count_bytes l.i l.rest ++ drop l.i l.bytes ≡ count_bytes (length l.initial.bytes) l.count)
