-- What `stored_writing::put_numbers` keeps true in its loop.
use Rattle.pen.specs.Pen.{Owes}
use Rattle.stored_writing.proofs.Putting.{numbers_left}
use Rattle.stored_writing.proofs.put_numbers.Given as goal

abbrev pub invariant-loop-i : goal.invariant-loop-i
invariant-loop-i l = Owes (numbers_left l.text l.numbers 0) (numbers_left l.text l.numbers l.i) l.initial.q l.initial.out l.q l.out
