-- What `line_places::line_start` keeps true in its loop.
use Rattle.std.proofs.Common.{◌≡◌, length}
use Rattle.line_places.specs.Lines.{line_start}
use Rattle.line_places.proofs.line_start.Given as goal

abbrev pub invariant-loop-i : goal.invariant-loop-i
invariant-loop-i l = line_start l.text l.i ≡ line_start l.text (length l.text)
