-- What `line_places::trimmed_end` keeps true in its loop.
use Rattle.std.proofs.Common.{◌≡◌, length}
use Rattle.line_places.specs.Lines.{trimmed}
use Rattle.line_places.proofs.trimmed_end.Given as goal

abbrev pub invariant-loop-i : goal.invariant-loop-i
invariant-loop-i l = trimmed l.text l.i ≡ trimmed l.text (length l.text)
