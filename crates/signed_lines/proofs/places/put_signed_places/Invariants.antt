-- What `signed_lines::put_signed_places` keeps true in its loop: the places so far are put.
use Rattle.printing.specs.Printing.{Prints}
use Rattle.signed_lines.specs.Places.{each_signed}
use Rattle.signed_lines.proofs.places.put_signed_places.Given as goal

abbrev pub invariant-loop-n : goal.invariant-loop-n
invariant-loop-n l = Prints (each_signed l.places l.n-index) l.fn.out l.out
