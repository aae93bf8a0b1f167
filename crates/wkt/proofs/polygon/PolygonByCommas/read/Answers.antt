-- A polygon without a name is what the grammar reads by commas of a multipolygon.
use Rattle.wkt.proofs.Bodies.{as_polygon}
use Rattle.wkt.proofs.polygon.PolygonByCommas.read.Goals as goal

pub returns : goal.returns
returns c = as_polygon _ c.unnamed.ensures
