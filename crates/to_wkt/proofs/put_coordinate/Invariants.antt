-- What `to_wkt::put_coordinate` keeps true in its loop.
use Prim.Native.Nat.{◌+◌, ◌-◌}
use Rattle.pen.specs.Pen.{Owes}
use Rattle.to_wkt.proofs.Canonical.{led_numbers}
use Rattle.to_wkt.proofs.put_coordinate.Given as goal

abbrev pub invariant-loop-i : goal.invariant-loop-i
invariant-loop-i l = Owes (led_numbers l.text l.numbers l.lead (l.first + 0) (l.width - 0)) (led_numbers l.text l.numbers l.before (l.first + l.i) (l.width - l.i)) l.initial.q l.initial.out l.q l.out
