-- `wkt::geometry` and `wkt::geometrycollection::collection` call each other: the depth, doubled, so that it falls from a geometry to its collection too; and a
-- collection's loop over its children is a list like any other.
use Rattle.std.proofs.Common.{◌+◌, ◌-◌, ◌*◌}
use Rattle.tokenizer.specs.Tokens.{cursor_at}
use Rattle.token_stream.specs.Stream.{size, stream}
use Rattle.answers.proofs.ByCommas.{ListInv}
use Rattle.wkt.specs.Parts.{child_of}
use Rattle.wkt.proofs.+geometry_collection.Given as goal

abbrev pub decreases-geometry : goal.decreases-geometry
decreases-geometry l = 2 * l.depth + 1

abbrev pub decreases-geometrycollection::collection : goal.decreases-geometrycollection::collection
decreases-geometrycollection::collection l = 2 * l.depth

abbrev pub invariant-geometrycollection::collection-loop-end : goal.invariant-geometrycollection::collection-loop-end
invariant-geometrycollection::collection-loop-end l = ListInv l.text l.row (child_of (l.depth - 1)) l.initial.nodes l.initial.numbers l.initial.here l.nodes l.numbers l.parts l.here

abbrev pub decreases-geometrycollection::collection-loop-end : goal.decreases-geometrycollection::collection-loop-end
decreases-geometrycollection::collection-loop-end l = size (stream l.text (cursor_at l.here.at))
