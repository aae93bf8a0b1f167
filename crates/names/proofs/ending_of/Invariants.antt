-- What `names::ending_of` keeps true in its loop.
use mathlib.Core.Path.{◌≡◌}
use Rattle.names.specs.Names.{ending}
use Rattle.names.proofs.Rows.{endings_from}
use Rattle.names.proofs.ending_of.Given as goal

abbrev pub invariant-loop-row : goal.invariant-loop-row
invariant-loop-row l = endings_from l.row l.w ≡ ending l.w
