-- What a walk through a tree meets, in preorder: each node in its place, and the end of each that has child rows.
use Rattle.std.specs.Prelude.{List, [], ◌∷◌, ◌++◌, ℕ, zero, suc, ◌+◌, length}
use Rattle.kinds.specs.Kinds.{kind_point, kind_line_string, kind_polygon, kind_multi_point, kind_multi_line_string, kind_multi_polygon, kind_geometry_collection}
use Rattle.store.specs.Rows.{Row}
use Rattle.tree.specs.Tree.{Coord, Node, point_n, line_n, polygon_n, multipoint_n, multiline_n, multipolygon_n, collection_n, Tree, row_over, rows_with, no_rows, point_rows, line_rows, polygon_rows, rows, coord_texts, line_texts, polygon_texts, no_texts, texts}
use Rattle.nodes.specs.declared.Frame.{Frame}
use Rattle.nodes.specs.declared.Visit.{Visit}
use Rattle.nodes.specs.declared.Met.{Met}
use Rattle.nodes.specs.declared.Met.TheVariants as met
use Rattle.nodes.specs.Nodes.{visit_of, frame_of, onward}

-- what is met of a part X that stands below a frame, its first row at i and its first number at j
abbrev pub Walker : Type 0 → Type 0
Walker X = Frame → ℕ → ℕ → X → List Met

-- parts, one after the other: each has its rows and number texts
unfoldable pub walk_each : {X : Type 0} → (X → List Row) → (X → List (List ℕ)) → Walker X → Walker (List X)
walk_each ro nu w f i j [] = []
walk_each ro nu w f i j (x ∷ xs) = w f i j x ++ walk_each ro nu w (onward f) (i + length (ro x)) (j + length (nu x)) xs

-- a node of kind k and dimension d whose parts are coordinates
abbrev pub walk_leaf : ℕ → ℕ → Walker (List Coord)
walk_leaf k d f i j cs = met.Node (visit_of i j f (row_over k d no_rows cs)) ∷ []

-- a node whose parts have rows; it ends after the last of them, having taken as many rows as lie between
unfoldable pub walk_parts : {X : Type 0} → (X → List Row) → (X → List (List ℕ)) → Walker X → Visit → ℕ → List X → List Met
walk_parts ro nu w v total [] = []
walk_parts ro nu w v total (x ∷ xs) = walk_each ro nu w (frame_of v) (v.row + 1) v.number (x ∷ xs) ++ met.End v.row total ∷ []

abbrev pub walk_nest : {X : Type 0} → (X → List Row) → (X → List (List ℕ)) → Walker X → ℕ → ℕ → Walker (List X)
walk_nest ro nu w k d f i j xs =
    met.Node (visit_of i j f (row_over k d ro xs)) ∷ walk_parts ro nu w (visit_of i j f (row_over k d ro xs)) (length (rows_with k d ro xs)) xs

-- the parts of kinds 3 to 6
abbrev pub walk_point : ℕ → Walker Coord
walk_point d f i j c = walk_leaf kind_point d f i j (c ∷ [])

abbrev pub walk_line : ℕ → Walker (List Coord)
walk_line d = walk_leaf kind_line_string d

abbrev pub walk_polygon : ℕ → Walker (List (List Coord))
walk_polygon d = walk_nest (line_rows d) line_texts (walk_line d) kind_polygon d

-- a node, where w walks through a collection's children
abbrev pub walk_node : {X : Type 0} → (X → List Row) → (X → List (List ℕ)) → Walker X → Walker (Node X)
walk_node ro nu w f i j (point_n d cs) = walk_leaf kind_point d f i j cs
walk_node ro nu w f i j (line_n d cs) = walk_leaf kind_line_string d f i j cs
walk_node ro nu w f i j (polygon_n d ls) = walk_nest (line_rows d) line_texts (walk_line d) kind_polygon d f i j ls
walk_node ro nu w f i j (multipoint_n d cs) = walk_nest (point_rows d) coord_texts (walk_point d) kind_multi_point d f i j cs
walk_node ro nu w f i j (multiline_n d ls) = walk_nest (line_rows d) line_texts (walk_line d) kind_multi_line_string d f i j ls
walk_node ro nu w f i j (multipolygon_n d ps) = walk_nest (polygon_rows d) polygon_texts (walk_polygon d) kind_multi_polygon d f i j ps
walk_node ro nu w f i j (collection_n d ts) = walk_nest ro nu w kind_geometry_collection d f i j ts

abbrev pub walk_nothing : {X : Type 0} → Walker X
walk_nothing f i j x = []

abbrev pub walk_tree : (d : ℕ) → Walker (Tree d)
walk_tree zero = walk_node no_rows no_texts walk_nothing
walk_tree (suc d) = walk_node (rows d) (texts d) (walk_tree d)
