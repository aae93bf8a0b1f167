-- A point of a multipoint: a `(` opens one in parentheses, and any other token begins a bare one and is held.
use Rattle.wkt.proofs.Bodies.{as_point_in, head_fits, point_open, point_held, point_bare}
use Rattle.wkt.proofs.point.PointByCommas.read.Goals as goal

pub in_parens-requires : goal.in_parens-requires
in_parens-requires c = head_fits c.requires c.moved.ensures

pub bare-requires : goal.bare-requires
bare-requires c = point_held (rw c.new-cursor.ensures at c.pass_open-opened.ensures) c.if-opened.false c.at_cursor.ensures c.requires

pub returns-then-opened : goal.returns-then-opened
returns-then-opened c = point_open (rw c.new-cursor.ensures at c.pass_open-opened.ensures) _ c.if-opened.true c.moved.ensures (as_point_in _ _ c.in_parens.ensures)

pub returns-else-opened : goal.returns-else-opened
returns-else-opened c = point_bare (rw c.new-cursor.ensures at c.pass_open-opened.ensures) c.if-opened.false c.at_cursor.ensures _ c.bare.ensures
