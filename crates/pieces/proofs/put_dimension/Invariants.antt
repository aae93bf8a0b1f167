-- What `pieces::put_dimension` keeps true in its loop.
use Rattle.names.specs.Names.{endings, string_of}
use Rattle.pieces.specs.Pieces.{word_pieces}
use Rattle.pieces.proofs.Tables.{StillPuts, endings_left}
use Rattle.pieces.proofs.put_dimension.Given as goal

abbrev pub invariant-loop-row : goal.invariant-loop-row
invariant-loop-row l = StillPuts (word_pieces (string_of endings l.dimension)) (endings_left l.row l.dimension) l.initial.q l.initial.out l.q l.out
