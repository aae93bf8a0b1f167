-- What `decimal::lowered` keeps true in its loop.
use mathlib.Core.Path.{◌≡◌}
use mathlib.Core.Bool.{not, ◌||◌}
use Prim.Native.Nat.{◌-◌, ◌/◌, ◌%◌, ◌^◌}
use lib.Dec.{eqb}
use Rattle.decimal.proofs.lowered.Given as goal

abbrev pub invariant-loop : goal.invariant-loop
invariant-loop l =
    (l.whole / 10 ^ (l.tens - l.counter) ≡ l.value / 10 ^ l.tens)
    × ((l.rest || not (eqb (l.whole % 10 ^ (l.tens - l.counter)) 0)) ≡ (l.left || not (eqb (l.value % 10 ^ l.tens) 0)))
