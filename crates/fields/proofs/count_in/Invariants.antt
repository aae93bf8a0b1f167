-- What `fields::count_in` keeps true in its loop.
use mathlib.Core.Path.{◌≡◌}
use Prim.Native.Nat.{◌%◌, ◌^◌}
use lib.ListN.{take}
use Rattle.fields.specs.Counts.{count_in}
use Rattle.fields.proofs.count_in.Given as goal

abbrev pub invariant-loop-b : goal.invariant-loop-b
invariant-loop-b l = l.count ≡ count_in (take l.b-index l.bytes) % 2 ^ 32
