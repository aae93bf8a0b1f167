-- What `to_wkt::put_coordinates` keeps true in its loop.
use Prim.Native.Nat.{◌+◌, ◌-◌, ◌*◌}
use Rattle.scan.specs.Bytes.{paren_open}
use Rattle.pen.specs.Pen.{Owes}
use Rattle.to_wkt.proofs.Canonical.{led_coordinates}
use Rattle.to_wkt.proofs.put_coordinates.Given as goal

abbrev pub invariant-loop-i : goal.invariant-loop-i
invariant-loop-i l = Owes (led_coordinates l.text l.numbers paren_open (l.first + 0 * l.width) l.width (l.count - 0)) (led_coordinates l.text l.numbers l.before (l.first + l.i * l.width) l.width (l.count - l.i)) l.initial.q l.initial.out l.q l.out
