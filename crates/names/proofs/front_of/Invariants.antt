-- What `names::front_of` keeps true in its loop.
use mathlib.Core.Path.{◌≡◌}
use Rattle.names.specs.Names.{front}
use Rattle.names.proofs.Rows.{names_from}
use Rattle.names.proofs.front_of.Given as goal

abbrev pub invariant-loop-row : goal.invariant-loop-row
invariant-loop-row l = names_from l.row l.w ≡ front l.w
