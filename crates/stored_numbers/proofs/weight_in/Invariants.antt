-- What `stored_numbers::weight_in` keeps true in its loop.
use Rattle.stored_numbers.proofs.Weights.{Weighing}
use Rattle.stored_numbers.proofs.weight_in.Given as goal

abbrev pub invariant-loop-i : goal.invariant-loop-i
invariant-loop-i l = Weighing l.text l.from l.len l.i l.sum
