-- What `pieces::put_name` keeps true in its loop.
use Rattle.pieces.specs.Pieces.{name_pieces}
use Rattle.pieces.proofs.Tables.{StillPuts, names_left}
use Rattle.pieces.proofs.put_name.Given as goal

abbrev pub invariant-loop-row : goal.invariant-loop-row
invariant-loop-row l = StillPuts (name_pieces l.kind) (names_left l.row l.kind) l.initial.q l.initial.out l.q l.out
