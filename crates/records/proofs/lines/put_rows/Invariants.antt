-- What `records::put_rows` keeps true in its loop: the places so far are put.
use Rattle.std.proofs.Common.{[], ◌∷◌, ◌++◌}
use Rattle.scan.specs.Text.{bytes}
use Rattle.printing.specs.Printing.{Prints, spaced}
use Rattle.records.specs.Lines.{each_of}
use Rattle.records.proofs.lines.put_rows.Given as goal

abbrev pub invariant-loop-n : goal.invariant-loop-n
invariant-loop-n l = Prints ((bytes " ;" ∷ []) ++ each_of spaced l.rows l.n-index) l.fn.out l.out
