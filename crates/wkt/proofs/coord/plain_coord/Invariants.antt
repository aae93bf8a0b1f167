-- What `wkt::plain_coord` keeps true in its loop.
use Prim.Native.Nat.{◌+◌, ◌≤◌}
use Rattle.store.specs.Rows.{number_room}
use Rattle.wkt.specs.Coords.{Unmoved, Numbers}
use Rattle.wkt.proofs.coord.plain_coord.Given as goal

abbrev pub invariant-loop-k : goal.invariant-loop-k
invariant-loop-k l = (l.k ≤ l.width) × (l.used + l.width ≤ number_room l.numbers) × Unmoved l.text l.used l.initial.numbers l.numbers × Numbers l.text l.at l.used l.initial.numbers l.k (l.used + l.k) l.here l.numbers
