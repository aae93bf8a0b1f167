-- What `line_places::line_at` keeps true in its loop: from here on as many lines are left to pass.
use Rattle.std.proofs.Common.{◌≡◌, ◌+◌, drop}
use Rattle.line_places.specs.Lines.{line_from}
use Rattle.line_places.proofs.line_at.Given as goal

abbrev pub invariant-loop-i : goal.invariant-loop-i
invariant-loop-i l = l.i + line_from (drop l.i l.text) l.left ≡ line_from l.text l.number
