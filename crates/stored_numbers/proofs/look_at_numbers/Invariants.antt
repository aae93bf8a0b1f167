-- What `stored_numbers::look_at_numbers` keeps true in its loop.
use Rattle.stored_numbers.proofs.Looks.{LookingNumbers}
use Rattle.stored_numbers.proofs.look_at_numbers.Given as goal

abbrev pub invariant-loop : goal.invariant-loop
invariant-loop l = LookingNumbers l.bytes l.first l.count l.good l.at l.counter
