-- A coordinate is lent the number rows only, and is a part all the same.
use Rattle.wkt.proofs.Bodies.{own, a_coord}
use Rattle.wkt.proofs.coord.CoordinateByCommas.read.Goals as goal

pub coord-requires : goal.coord-requires
coord-requires c = own c.requires

pub returns : goal.returns
returns c = a_coord c.requires c.coord.ensures
