-- The parts of the grammar that the code's functions read, with room for N node rows and M number rows.
use Rattle.std.specs.Prelude.{cond, ◌&&◌, ℕ, eqb, leb}
use Rattle.kinds.specs.Kinds.{kind_point, kind_line_string, kind_multi_point, kind_multi_line_string, kind_multi_polygon}
use Rattle.limits.specs.Limits.{depth_limit}
use Rattle.grammar.specs.Asks.{bind}
use Rattle.grammar.specs.Grammar as spec
use Rattle.grammar.specs.Grammar.{opener, root_head}
use Rattle.grammar.specs.Reading.{enough}
use Rattle.answers.specs.Reading.{Part, list_of}

abbrev pub coord_of : ℕ → Part
coord_of d N M = spec.coord M d

abbrev pub point_body_of : ℕ → ℕ → Part
point_body_of d i N M = spec.point_body M d i

abbrev pub line_of : ℕ → Part
line_of d N M = spec.line_of N M enough d

abbrev pub polygon_of : ℕ → Part
polygon_of d N M = spec.polygon_of N M enough d

abbrev pub point_of : ℕ → Part
point_of d N M = spec.point_of N M enough d

abbrev pub point_in_of : ℕ → ℕ → Part
point_in_of d p N M = spec.point_in N M enough d p

abbrev pub bare_point_of : ℕ → ℕ → Part
bare_point_of d p N M = spec.bare_point N M enough d p

-- what was opened at p is a row, a body, and the closing token
abbrev pub with_body : ℕ → ℕ → (ℕ → Part) → ℕ → Part
with_body k d body p N M o = spec.opened N k d (λ i. body i N M) p o

-- the same without a name: in parentheses, or EMPTY
abbrev pub unnamed_of : ℕ → (ℕ → ℕ → Part) → ℕ → Part
unnamed_of k holds d N M o = bind (opener k d) (spec.parens N M enough (λ d' p. with_body k d' (holds d') p N M) o)

-- kinds 1 to 5 as they are; whatever else is opened is a multipolygon
unfoldable pub simple_kind : ℕ → ℕ
simple_kind k = cond (leb kind_point k && leb k kind_multi_line_string) k kind_multi_polygon

-- the body of kind k: those of a polygon and of a multi line string are the same
unfoldable pub body_of : ℕ → ℕ → ℕ → Part
body_of k d i =
    cond (eqb k kind_point) (point_body_of d i)
    (cond (eqb k kind_line_string) (list_of i (coord_of d))
    (cond (eqb k kind_multi_point) (list_of i (point_of d))
    (cond (eqb k kind_multi_polygon) (list_of i (polygon_of d))
    (list_of i (line_of d)))))

abbrev pub simple_of : ℕ → ℕ → ℕ → Part
simple_of k d p N M = spec.simple N M enough k d p

abbrev pub collection_of : ℕ → ℕ → ℕ → Part
collection_of depth d p N M = spec.collection N M enough depth d p

-- a geometry of a collection, from its name on
abbrev pub child_of : ℕ → Part
child_of depth N M = spec.child_of N M enough (spec.collection N M enough depth)

-- the geometry that a text begins with
abbrev pub root_of : Part
root_of N M o = bind root_head (spec.geometry N M enough depth_limit o)
