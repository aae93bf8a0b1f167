-- The rows of a tree have the kinds and the dimensions that there are.
-- Assumes nothing.
use mathlib.Core.List.{List, [], ◌∷◌, ◌++◌, flat_map}
use Prim.Native.Nat.{ℕ, zero, suc, ◌≤◌}
use native.Mathlib.Omega.{arith}
use Rattle.lists.specs.Lists.{All}
use Rattle.kinds.specs.Kinds.{kind_point, kind_line_string, kind_polygon, kind_multi_point, kind_multi_line_string, kind_multi_polygon, kind_geometry_collection, dim_xyzm}
use Rattle.store.specs.Rows.{Row}
use Rattle.tree.specs.Tree.{Coord, Node, point_n, line_n, polygon_n, multipoint_n, multiline_n, multipolygon_n, collection_n, Tree, rows_with, no_rows, point_rows, line_rows, polygon_rows, node_rows, rows, IsDimension, NodeShape, NoShape, Shape}

abbrev pub KnownRow : Row → Type 0
KnownRow r = (r.kind ≤ kind_geometry_collection) × (r.dimension ≤ dim_xyzm)

all_both : {A : Type 0} (Q : A → Type 0) (a b : List A) → All Q a → All Q b → All Q (a ++ b)
unfolding All
all_both Q [] b u w = w
all_both Q (x ∷ a) b u w = (u.0, all_both Q a b u.1 w)

module _ {X : Type 0} (ro : X → List Row) (Q : X → Type 0) (h : (x : X) → Q x → All KnownRow (ro x)) where
  each_known : (xs : List X) → All Q xs → All KnownRow (flat_map ro xs)
  unfolding All flat_map
  each_known [] a = tt
  each_known (x ∷ xs) a = all_both KnownRow (ro x) (flat_map ro xs) (h x a.0) (each_known xs a.1)

  over_known : (k d : ℕ) → k ≤ kind_geometry_collection → IsDimension d → (xs : List X) → All Q xs → All KnownRow (rows_with k d ro xs)
  unfolding All rows_with
  over_known k d n m xs a = ((n, m), each_known xs a)

-- whatever the parts are
any : {X : Type 0} (xs : List X) → All (λ (x : X). Unit {0}) xs
unfolding All
any [] = tt
any (x ∷ xs) = (tt, any xs)

module _ (d : ℕ) (g : IsDimension d) where
  coords_known : (k : ℕ) → k ≤ kind_geometry_collection → (cs : List Coord) → All KnownRow (rows_with k d no_rows cs)
  unfolding All
  coords_known k n cs = over_known no_rows (λ (c : Coord). Unit {0}) (λ c q. tt) k d n g cs (any cs)

  lines_known : (k : ℕ) → k ≤ kind_geometry_collection → (ls : List (List Coord)) → All KnownRow (rows_with k d (line_rows d) ls)
  lines_known k n ls = over_known (line_rows d) (λ (cs : List Coord). Unit {0}) (λ cs q. coords_known kind_line_string (omega arith) cs) k d n g ls (any ls)

  points_known : (cs : List Coord) → All KnownRow (rows_with kind_multi_point d (point_rows d) cs)
  points_known cs = over_known (point_rows d) (λ (c : Coord). Unit {0}) (λ c q. coords_known kind_point (omega arith) (c ∷ [])) kind_multi_point d (omega arith) g cs (any cs)

  polygons_known : (ps : List (List (List Coord))) → All KnownRow (rows_with kind_multi_polygon d (polygon_rows d) ps)
  polygons_known ps = over_known (polygon_rows d) (λ (ls : List (List Coord)). Unit {0}) (λ ls q. lines_known kind_polygon (omega arith) ls) kind_multi_polygon d (omega arith) g ps (any ps)

node_known : {X : Type 0} (ro : X → List Row) (Q : X → Type 0) → ((x : X) → Q x → All KnownRow (ro x)) → (x : Node X) → NodeShape Q x → All KnownRow (node_rows ro x)
node_known ro Q h (point_n d cs) g = coords_known d g.0 kind_point (omega arith) cs
node_known ro Q h (line_n d cs) g = coords_known d g.0 kind_line_string (omega arith) cs
node_known ro Q h (polygon_n d ls) g = lines_known d g.0 kind_polygon (omega arith) ls
node_known ro Q h (multipoint_n d cs) g = points_known d g.0 cs
node_known ro Q h (multiline_n d ls) g = lines_known d g.0 kind_multi_line_string (omega arith) ls
node_known ro Q h (multipolygon_n d ps) g = polygons_known d g.0 ps
node_known ro Q h (collection_n d ts) g = over_known ro Q h kind_geometry_collection d (omega arith) g.0 ts g.1

pub known_rows : (d : ℕ) (t : Tree d) → Shape d t → All KnownRow (rows d t)
known_rows zero t g = node_known no_rows NoShape (λ x q. absurd x) t g
known_rows (suc d) t g = node_known (rows d) (Shape d) (known_rows d) t g
