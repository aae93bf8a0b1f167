-- Trees, and the rows and the number texts of a tree (document 01, "The store").
use Rattle.std.specs.Prelude.{◌≡◌, true, ℕ, zero, suc, ◌≤◌, length}
use mathlib.Core.List.{List, [], ◌∷◌, flat_map}
use Rattle.number.specs.Lexeme.{is_lexeme}
use Rattle.kinds.specs.Kinds.{kind_point, kind_line_string, kind_polygon, kind_multi_point, kind_multi_line_string, kind_multi_polygon, kind_geometry_collection, dim_xyzm, width}
use Rattle.store.specs.Rows.{Row, node_row}
use Rattle.lists.specs.Lists.{All}

-- a coordinate is its number texts
abbrev pub Coord : Type 0
Coord = List (List ℕ)

-- a geometry of a dimension with its parts, of which an empty one has none; X is what a collection's children are
pub data Node (X : Type 0) : Type 0 where
  point_n line_n multipoint_n : ℕ → List Coord → Node X
  polygon_n multiline_n : ℕ → List (List Coord) → Node X
  multipolygon_n : ℕ → List (List (List Coord)) → Node X
  collection_n : ℕ → List X → Node X

-- "at most 32 non-empty collections lie on a path": here at most d
abbrev pub Tree : ℕ → Type 0
Tree zero = Node ⊥
Tree (suc d) = Node (Tree d)

-- ---- rows: "Nodes are rows of three u32 in preorder: kind [..], dimension [..], parts (coordinates for kinds 1 and 2, children otherwise)."
-- the row of a node of kind k and dimension d that has the parts xs, each of which has its rows
abbrev pub row_over : {X : Type 0} → ℕ → ℕ → (X → List Row) → List X → Row
row_over k d f xs = node_row k d (length xs) (flat_map f xs)

-- the row of a node, and after it the rows of its parts
unfoldable pub rows_with : {X : Type 0} → ℕ → ℕ → (X → List Row) → List X → List Row
rows_with k d f xs = row_over k d f xs ∷ flat_map f xs

-- a coordinate has no row
abbrev pub no_rows : {X : Type 0} → X → List Row
no_rows x = []

abbrev pub point_rows : ℕ → Coord → List Row
point_rows d c = rows_with kind_point d no_rows (c ∷ [])

abbrev pub line_rows : ℕ → List Coord → List Row
line_rows d cs = rows_with kind_line_string d no_rows cs

abbrev pub polygon_rows : ℕ → List (List Coord) → List Row
polygon_rows d ls = rows_with kind_polygon d (line_rows d) ls

abbrev pub node_rows : {X : Type 0} → (X → List Row) → Node X → List Row
node_rows f (point_n d cs) = rows_with kind_point d no_rows cs
node_rows f (line_n d cs) = rows_with kind_line_string d no_rows cs
node_rows f (polygon_n d ls) = rows_with kind_polygon d (line_rows d) ls
node_rows f (multipoint_n d cs) = rows_with kind_multi_point d (point_rows d) cs
node_rows f (multiline_n d ls) = rows_with kind_multi_line_string d (line_rows d) ls
node_rows f (multipolygon_n d ps) = rows_with kind_multi_polygon d (polygon_rows d) ps
node_rows f (collection_n d ts) = rows_with kind_geometry_collection d f ts

abbrev pub rows : (d : ℕ) → Tree d → List Row
rows zero t = node_rows no_rows t
rows (suc d) t = node_rows (rows d) t

-- ---- number texts, in order
abbrev pub coord_texts : Coord → List (List ℕ)
coord_texts c = c

abbrev pub line_texts : List Coord → List (List ℕ)
line_texts cs = flat_map coord_texts cs

abbrev pub polygon_texts : List (List Coord) → List (List ℕ)
polygon_texts ls = flat_map line_texts ls

abbrev pub node_texts : {X : Type 0} → (X → List (List ℕ)) → Node X → List (List ℕ)
node_texts f (point_n d cs) = flat_map coord_texts cs
node_texts f (line_n d cs) = flat_map coord_texts cs
node_texts f (polygon_n d ls) = flat_map line_texts ls
node_texts f (multipoint_n d cs) = flat_map coord_texts cs
node_texts f (multiline_n d ls) = flat_map line_texts ls
node_texts f (multipolygon_n d ps) = flat_map polygon_texts ps
node_texts f (collection_n d ts) = flat_map f ts

abbrev pub no_texts : {X : Type 0} → X → List (List ℕ)
no_texts x = []

abbrev pub texts : (d : ℕ) → Tree d → List (List ℕ)
texts zero t = node_texts no_texts t
texts (suc d) t = node_texts (texts d) t

-- ---- well formed
-- "dimension (XY 0, XYZ 1, XYM 2, XYZM 3)"
abbrev pub IsDimension : ℕ → Type 0
IsDimension d = d ≤ dim_xyzm

-- "the numbers are exactly as many as needed"
abbrev pub CoordShape : ℕ → Coord → Type 0
CoordShape d c = length c ≡ width d

abbrev pub LineShape : ℕ → List Coord → Type 0
LineShape d cs = All (CoordShape d) cs

abbrev pub PolygonShape : ℕ → List (List Coord) → Type 0
PolygonShape d ls = All (LineShape d) ls

-- "children of the kinds named and, below kinds 3 to 6, of the parent's dimension, a point has at most 1 part, a multipoint's points exactly 1"
abbrev pub NodeShape : {X : Type 0} → (X → Type 0) → Node X → Type 0
NodeShape Q (point_n d cs) = IsDimension d × All (CoordShape d) cs × (length cs ≤ 1)
NodeShape Q (line_n d cs) = IsDimension d × All (CoordShape d) cs
NodeShape Q (polygon_n d ls) = IsDimension d × All (LineShape d) ls
NodeShape Q (multipoint_n d cs) = IsDimension d × All (CoordShape d) cs
NodeShape Q (multiline_n d ls) = IsDimension d × All (LineShape d) ls
NodeShape Q (multipolygon_n d ps) = IsDimension d × All (PolygonShape d) ps
NodeShape Q (collection_n d ts) = IsDimension d × All Q ts

abbrev pub NoShape : {X : Type 0} → X → Type 0
NoShape x = ⊥

abbrev pub Shape : (d : ℕ) → Tree d → Type 0
Shape zero t = NodeShape NoShape t
Shape (suc d) t = NodeShape (Shape d) t

abbrev pub Lexeme : List ℕ → Type 0
Lexeme x = is_lexeme x ≡ true

pub record GoodTree (d : ℕ) (t : Tree d) : Type 0 where
  pub shape : Shape d t
  pub lexemes : All Lexeme (texts d t)
