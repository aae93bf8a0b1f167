-- A line string without a name is what the grammar reads by commas of a polygon.
use Rattle.wkt.proofs.Bodies.{as_line}
use Rattle.wkt.proofs.linestring.LineStringByCommas.read.Goals as goal

pub returns : goal.returns
returns c = as_line _ c.unnamed.ensures
