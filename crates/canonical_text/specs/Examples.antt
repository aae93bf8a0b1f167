-- Worked examples of this crate's definitions, by computation.
use Rattle.std.specs.Prelude.{◌≡◌, refl, List, [], ◌∷◌, ℕ}
use Rattle.scan.specs.Text.{bytes}
use Rattle.scan.specs.Front.{begins}
use Rattle.kinds.specs.Kinds.{dim_xy, dim_xyz}
use Rattle.tree.specs.Tree.{Coord, point_n, line_n, polygon_n, collection_n}
use Rattle.names.specs.Names.{string_of}
use Rattle.canonical_text.specs.Canonical.{spell, each, separated, put_parts, put_named, put_dimension, put_with, canonical_text}

all : ℕ
unfolding begins spell each separated put_parts put_named put_dimension string_of put_with
all = 0

abbrev pair : List ℕ → List ℕ → Coord
pair x y = x ∷ y ∷ []

-- "`POINT(++4 +-4)`: [..] written `POINT(++4 -4)`"; letters get a `+`; empty parts; a dimension
written : (canonical_text (point_n dim_xy (pair (bytes "+4") (bytes "-4") ∷ [])) ≡ bytes "POINT(++4 -4)")
    × (canonical_text (line_n dim_xyz ((bytes "nan" ∷ bytes "-inf" ∷ bytes ".5" ∷ []) ∷ [])) ≡ bytes "LINESTRING Z(+nan -inf .5)")
    × (canonical_text (collection_n dim_xyz (polygon_n dim_xy ([] ∷ (pair (bytes "1") (bytes "2") ∷ pair (bytes "1") (bytes "4") ∷ []) ∷ []) ∷ point_n dim_xyz [] ∷ [])) ≡ bytes "GEOMETRYCOLLECTION Z(POLYGON(EMPTY,(1 2,1 4)),POINT Z EMPTY)")
unfolding all
written = (refl, refl, refl)
