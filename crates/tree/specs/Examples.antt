-- Worked examples of this crate's definitions, by computation.
use Rattle.std.specs.Prelude.{◌≡◌, refl, ℕ}
use Rattle.std.proofs.Math.Option.{none, some}
use mathlib.Core.List.{List, [], ◌∷◌, ◌++◌, flat_map}
use Rattle.scan.specs.Text.{bytes}
use Rattle.kinds.specs.Kinds.{kind_point, kind_line_string, kind_polygon, kind_multi_point, kind_geometry_collection, dim_xy, dim_xyz, width}
use Rattle.store.specs.Rows.{Row, node_over}
use Rattle.tree.specs.Tree.{rows_with, multipoint_n, collection_n, rows, texts}
use Rattle.tree.specs.TreeIn.{on_front, as_a, times, find_text, find_row, exactly_one, at_most_one, find_parts, find_node, whole, tree_in}

all : ℕ
unfolding flat_map rows_with width on_front as_a times find_text find_row exactly_one at_most_one find_parts find_node whole
all = 0

abbrev one : List ℕ
one = bytes "1"

abbrev two : List ℕ
two = bytes "2"

abbrev four : List ℕ
four = bytes "4"

-- a node of a kind without parts under it that have rows, and a collection over rows
abbrev leaf : ℕ → ℕ → ℕ → List Row
leaf k d n = node_over k d n []

abbrev collection : ℕ → List Row → List Row
collection n under = node_over kind_geometry_collection dim_xy n under

abbrev two_points : List Row
two_points = node_over kind_multi_point dim_xy 2 (leaf kind_point dim_xy 1 ++ leaf kind_point dim_xy 1)

-- `MULTIPOINT((1 2),(1 4))`: its tree, and the tree's rows and texts
tree : (tree_in 2 two_points (one ∷ two ∷ one ∷ four ∷ []) ≡ some (multipoint_n dim_xy ((one ∷ two ∷ []) ∷ (one ∷ four ∷ []) ∷ [])))
    × (rows 2 (multipoint_n dim_xy ((one ∷ two ∷ []) ∷ (one ∷ four ∷ []) ∷ [])) ≡ two_points)
    × (texts 2 (multipoint_n dim_xy ((one ∷ two ∷ []) ∷ (one ∷ four ∷ []) ∷ [])) ≡ one ∷ two ∷ one ∷ four ∷ [])
unfolding all
tree = (refl, refl, refl)

-- two nodes side by side, a number too many or too few, a point with two parts, a child of another dimension, a kind 8
ill_formed : (tree_in 2 (leaf kind_point dim_xy 0 ++ leaf kind_point dim_xy 0) [] ≡ none)
    × (tree_in 2 (leaf kind_point dim_xy 1) (one ∷ two ∷ four ∷ []) ≡ none)
    × (tree_in 2 (leaf kind_point dim_xyz 1) (one ∷ two ∷ []) ≡ none)
    × (tree_in 2 (leaf kind_point dim_xy 2) (one ∷ two ∷ one ∷ two ∷ []) ≡ none)
    × (tree_in 2 (node_over kind_polygon dim_xy 1 (leaf kind_line_string dim_xyz 0)) [] ≡ none)
    × (tree_in 2 (leaf 8 dim_xy 0) [] ≡ none)
unfolding all
ill_formed = (refl, refl, refl, refl, refl, refl)

-- a collection too deep, and an empty one that is not
deep : (tree_in 1 (collection 1 (collection 1 (leaf kind_point dim_xy 0))) [] ≡ none)
    × (tree_in 1 (collection 1 (collection 0 [])) [] ≡ some (collection_n dim_xy (collection_n dim_xy [] ∷ [])))
unfolding all
deep = (refl, refl)
