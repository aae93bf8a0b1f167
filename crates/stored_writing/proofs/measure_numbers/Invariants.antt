-- What `stored_writing::measure_numbers` keeps true in its loop.
use Rattle.stored_writing.proofs.Measures.{Measuring}
use Rattle.stored_writing.proofs.measure_numbers.Given as goal

abbrev pub invariant-loop-i : goal.invariant-loop-i
invariant-loop-i l = Measuring l.limit l.numbers l.bytes l.i
