-- The store as a tree (document 01, "The store"): the one tree that node rows and number texts are, found from the front.
use Rattle.std.specs.Prelude.{◌≡◌, true, cond, List, [], ◌∷◌, map, ℕ, zero, suc, ◌+◌, ◌≤◌, eqb, leb, length, take, drop}
use Rattle.std.proofs.Math.Option.{Option, none, some}
use Rattle.limits.specs.Limits.{depth_limit}
use Rattle.kinds.specs.Kinds.{kind_point, kind_line_string, kind_polygon, kind_multi_point, kind_multi_line_string, kind_multi_polygon, kind_geometry_collection, dim_xyzm, width}
use Rattle.number.specs.Lexeme.{is_lexeme}
use Rattle.store.specs.Rows.{Row, Span, span}
use Rattle.lists.specs.Lists.{All}
use Rattle.tree.specs.Tree.{Coord, Node, point_n, line_n, polygon_n, multipoint_n, multiline_n, multipolygon_n, collection_n, Tree}

-- "each lies in its text and is a lexeme": a number row's start, length and bytes
pub record NumberIn (text : List ℕ) (start len : ℕ) (x : List ℕ) : Type 0 where
  pub inside : start + len ≤ length text
  pub bytes : take len (drop start text) ≡ x
  pub lexeme : is_lexeme x ≡ true

abbrev pub SpanIn : List ℕ → Span → Type 0
SpanIn text (span start len x) = NumberIn text start len x

-- the bytes of a number row
abbrev pub span_text : Span → List ℕ
span_text (span start len x) = x

abbrev pub span_texts : List Span → List (List ℕ)
span_texts ss = map span_text ss

-- a part that stood in front of rows and number texts, and the rows and texts after it; or none, and the store is ill formed
pub data Front (X : Type 0) : Type 0 where
  ill : Front X
  front : X → List Row → List (List ℕ) → Front X

abbrev pub Finder : Type 0 → Type 0
Finder X = List Row → List (List ℕ) → Front X

unfoldable pub on_front : {X Y : Type 0} → Front X → (X → Finder Y) → Front Y
on_front ill f = ill
on_front (front x rs ns) f = f x rs ns

unfoldable pub as_a : {X Y : Type 0} → (X → Y) → Front X → Front Y
as_a c p = on_front p λ x rs ns. front (c x) rs ns

-- nothing is well formed
abbrev pub find_none : {X : Type 0} → Finder X
find_none rs ns = ill

-- n parts, one after the other
unfoldable pub times : {X : Type 0} → Finder X → ℕ → Finder (List X)
times f zero rs ns = front [] rs ns
times f (suc n) rs ns = on_front (f rs ns) λ x rs1 ns1. as_a (λ (xs : List _). x ∷ xs) (times f n rs1 ns1)

unfoldable pub find_text : Finder (List ℕ)
find_text rs [] = ill
find_text rs (x ∷ ns) = front x rs ns

abbrev pub find_coord : ℕ → Finder Coord
find_coord d = times find_text (width d)

-- a row "of the kinds named and [..] of the parent's dimension": f gets its parts
unfoldable pub find_row : {X : Type 0} → ℕ → ℕ → (ℕ → Finder X) → Finder X
find_row k d f [] ns = ill
find_row k d f (r ∷ rs) ns = cond (eqb r.kind k) (cond (eqb r.dimension d) (f r.parts rs ns) ill) ill

abbrev pub find_line : ℕ → Finder (List Coord)
find_line d = find_row kind_line_string d (times (find_coord d))

abbrev pub find_polygon : ℕ → Finder (List (List Coord))
find_polygon d = find_row kind_polygon d (times (find_line d))

-- "a multipoint's points exactly 1"
unfoldable pub exactly_one : ℕ → ℕ → Finder Coord
exactly_one d n rs ns = cond (eqb n 1) (find_coord d rs ns) ill

abbrev pub find_point : ℕ → Finder Coord
find_point d = find_row kind_point d (exactly_one d)

-- "a point has at most 1 part"
unfoldable pub at_most_one : {X : Type 0} → ℕ → ℕ → Finder (Node X)
at_most_one d n rs ns = cond (leb n 1) (as_a (point_n d) (times (find_coord d) n rs ns)) ill

-- a node's parts, by the row's kind, dimension and number of parts
unfoldable pub find_parts : {X : Type 0} → Finder X → ℕ → ℕ → ℕ → Finder (Node X)
find_parts f k d n rs ns =
    cond (eqb k kind_point) (at_most_one d n rs ns)
    (cond (eqb k kind_line_string) (as_a (line_n d) (times (find_coord d) n rs ns))
    (cond (eqb k kind_polygon) (as_a (polygon_n d) (times (find_line d) n rs ns))
    (cond (eqb k kind_multi_point) (as_a (multipoint_n d) (times (find_point d) n rs ns))
    (cond (eqb k kind_multi_line_string) (as_a (multiline_n d) (times (find_line d) n rs ns))
    (cond (eqb k kind_multi_polygon) (as_a (multipolygon_n d) (times (find_polygon d) n rs ns))
    (cond (eqb k kind_geometry_collection) (as_a (collection_n d) (times f n rs ns))
    ill))))))

unfoldable pub find_node : {X : Type 0} → Finder X → Finder (Node X)
find_node f [] ns = ill
find_node f (r ∷ rs) ns = cond (leb r.dimension dim_xyzm) (find_parts f r.kind r.dimension r.parts rs ns) ill

-- "at most 32 non-empty collections lie on a path": here at most d
abbrev pub find_tree : (d : ℕ) → Finder (Tree d)
find_tree zero = find_node find_none
find_tree (suc d) = find_node (find_tree d)

-- "its rows are exactly one preorder tree", and "the numbers are exactly as many as needed"
unfoldable pub whole : {X : Type 0} → Front X → Option X
whole ill = none
whole (front t [] []) = some t
whole (front t [] (x ∷ ns)) = none
whole (front t (r ∷ rs) ns) = none

-- the one tree that the rows and number texts are
abbrev pub tree_in : (d : ℕ) → List Row → List (List ℕ) → Option (Tree d)
tree_in d rs ns = whole (find_tree d rs ns)

-- "A store is well formed if its rows are exactly one preorder tree [..], the numbers are exactly as many as needed, and each lies in its text and is a lexeme."
pub record WellFormed (text : List ℕ) (rs : List Row) (ss : List Span) : Type 0 where
  pub tree : Tree depth_limit
  pub is : tree_in depth_limit rs (span_texts ss) ≡ some tree
  pub numbers : All (SpanIn text) ss
