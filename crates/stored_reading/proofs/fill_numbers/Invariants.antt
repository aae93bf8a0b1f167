-- What `stored_reading::fill_numbers` keeps true in its loop.
use Rattle.stored_reading.proofs.Fills.{FillingNumbers}
use Rattle.stored_reading.proofs.fill_numbers.Given as goal

abbrev pub invariant-loop-i : goal.invariant-loop-i
invariant-loop-i l = FillingNumbers l.bytes l.first l.count l.initial.numbers l.numbers l.at l.i
