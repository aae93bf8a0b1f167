-- What `utf8::width_at` keeps true in its loops, and what falls.
use mathlib.Core.Path.{◌≡◌}
use Prim.Native.Nat.{◌+◌, ◌-◌, ◌≤◌}
use lib.ListN.{length}
use Rattle.scan.specs.Front.{rest}
use Rattle.utf8.specs.Utf8.{◌‥◌, char_width}
use Rattle.utf8.specs.Leads.{if_followed}
use Rattle.utf8.proofs.width_at.Given as goal

abbrev pub invariant-loop-have : goal.invariant-loop-have
invariant-loop-have l =
    (l.i + l.have ≤ length l.text) × (if_followed l.width (l.low ‥ l.high) (l.width - l.have) (rest l.text (l.i + l.have)) ≡ char_width (rest l.text l.i))
