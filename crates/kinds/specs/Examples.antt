-- Worked examples of this crate's definitions, by computation.
use Rattle.std.specs.Prelude.{◌≡◌, refl, ℕ, List, [], ◌∷◌}
use Rattle.lists.specs.Lists.{passing, bytes_that}
use Rattle.kinds.specs.Kinds.{kind_point, kind_line_string, kind_polygon, kind_multi_point, kind_multi_line_string, kind_multi_polygon, kind_geometry_collection, dim_xy, dim_xyz, dim_xym, dim_xyzm, has_z, has_m, width}

-- "kind (Point 1, LineString 2, Polygon 3, MultiPoint 4, MultiLineString 5, MultiPolygon 6, GeometryCollection 7)"
kinds : ◌≡◌ {A = List ℕ} (kind_point ∷ kind_line_string ∷ kind_polygon ∷ kind_multi_point ∷ kind_multi_line_string ∷ kind_multi_polygon ∷ kind_geometry_collection ∷ []) (1 ∷ 2 ∷ 3 ∷ 4 ∷ 5 ∷ 6 ∷ 7 ∷ [])
kinds = refl

-- "dimension (XY 0, XYZ 1, XYM 2, XYZM 3)", and those of them that have Z, and M
dimensions : (◌≡◌ {A = List ℕ} (dim_xy ∷ dim_xyz ∷ dim_xym ∷ dim_xyzm ∷ []) (0 ∷ 1 ∷ 2 ∷ 3 ∷ [])) × (bytes_that has_z ≡ 1 ∷ 3 ∷ []) × (bytes_that has_m ≡ 2 ∷ 3 ∷ [])
unfolding passing
dimensions = (refl, refl, refl)

-- a coordinate of XY has two numbers, of XYZ and XYM three, of XYZM four
widths : (width dim_xy ≡ 2) × (width dim_xyz ≡ 3) × (width dim_xym ≡ 3) × (width dim_xyzm ≡ 4)
unfolding width
widths = (refl, refl, refl, refl)
