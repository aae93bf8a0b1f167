-- What `explain::put_part` keeps true in its loop: whatever else puts the pieces that are left, with what is put it has put all of them.
use Rattle.std.proofs.Common.{◌≤◌, ◌-◌, length}
use Rattle.printing.specs.declared.Out.{Out}
use Rattle.printing.specs.Printing.{Prints}
use Rattle.explain.specs.Shown.{pieces_from, pieces}
use Rattle.explain.proofs.characters.put_part.Given as goal

abbrev pub invariant-loop-i : goal.invariant-loop-i
invariant-loop-i l = (l.i ≤ length l.part) × ((last : Out) → Prints (pieces_from (length l.part - l.i) l.under l.part l.i) l.out last → Prints (pieces l.under l.part) l.fn.out last)

abbrev pub decreases-loop-i : goal.decreases-loop-i
decreases-loop-i l = length l.part - l.i
