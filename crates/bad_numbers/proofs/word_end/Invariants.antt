-- What `bad_numbers::word_end` keeps true in its loops, and what falls.
use Rattle.bad_numbers.proofs.Scans.{InWord}
use Rattle.bad_numbers.proofs.word_end.Given as goal

abbrev pub invariant-loop-end : goal.invariant-loop-end
invariant-loop-end l = InWord l.w l.at l.end
