-- The numbers of kinds and dimensions (document 01, "The store").
use Rattle.std.specs.Prelude.{ℕ, ◌+◌, Bool, cond, ◌||◌, eqb}

-- "kind (Point 1, LineString 2, Polygon 3, MultiPoint 4, MultiLineString 5, MultiPolygon 6, GeometryCollection 7)"
abbrev pub kind_point : ℕ
kind_point = 1

abbrev pub kind_line_string : ℕ
kind_line_string = 2

abbrev pub kind_polygon : ℕ
kind_polygon = 3

abbrev pub kind_multi_point : ℕ
kind_multi_point = 4

abbrev pub kind_multi_line_string : ℕ
kind_multi_line_string = 5

abbrev pub kind_multi_polygon : ℕ
kind_multi_polygon = 6

abbrev pub kind_geometry_collection : ℕ
kind_geometry_collection = 7

-- "dimension (XY 0, XYZ 1, XYM 2, XYZM 3)"
abbrev pub dim_xy : ℕ
dim_xy = 0

abbrev pub dim_xyz : ℕ
dim_xyz = 1

abbrev pub dim_xym : ℕ
dim_xym = 2

abbrev pub dim_xyzm : ℕ
dim_xyzm = 3

-- "X, Y, then Z, M as the dimension asks"
abbrev pub has_z : ℕ → Bool
has_z d = eqb d dim_xyz || eqb d dim_xyzm

abbrev pub has_m : ℕ → Bool
has_m d = eqb d dim_xym || eqb d dim_xyzm

-- how many numbers a coordinate of a dimension has
unfoldable pub width : ℕ → ℕ
width d = 2 + (cond (has_z d) 1 0 + cond (has_m d) 1 0)
