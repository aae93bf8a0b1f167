-- What `decimal::raised` keeps true in its loop.
use mathlib.Core.Path.{◌≡◌}
use Prim.Native.Nat.{◌-◌, ◌*◌, ◌^◌, ◌<◌}
use Rattle.decimal.specs.Code.{held}
use Rattle.decimal.proofs.raised.Given as goal

abbrev pub invariant-loop : goal.invariant-loop
invariant-loop l = (l.x < 10 * held) × (l.x * 10 ^ (l.tens - l.counter) ≡ l.value * 10 ^ l.tens)
