-- What `walk::wanting` keeps true in its loops.
use mathlib.Core.Path.{◌≡◌}
use Rattle.walk.specs.Walk.{wanted_from}
use Rattle.walk.proofs.wanting.Given as goal

abbrev pub invariant-loop-at : goal.invariant-loop-at
invariant-loop-at l = wanted_from l.frames l.top ≡ wanted_from l.frames l.at
