-- What `stored_reading::place_after` keeps true in its loop.
use Rattle.stored_reading.proofs.Fills.{Placing}
use Rattle.stored_reading.proofs.place_after.Given as goal

abbrev pub invariant-loop : goal.invariant-loop
invariant-loop l = Placing l.bytes l.first l.count l.at l.counter
