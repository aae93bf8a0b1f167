-- In a tree no node has more parts than there are rows, or than there are number texts: a child has a row of its own, and a coordinate a number.
-- Assumes nothing.
use mathlib.Core.Path.{◌≡◌, refl}
use mathlib.Core.Bool.{Bool, true}
use mathlib.Core.List.{List, [], ◌∷◌, ◌++◌, flat_map, append-nil}
use Prim.Native.Nat.{ℕ, zero, suc, ◌≤◌}
use native.Mathlib.Omega.{arith}
use lib.Dec.{leb}
use lib.ListN.{length, length-append}
use borrow.Author.Tests.{le-leb}
use Rattle.lists.specs.Lists.{every, All}
use Rattle.lists.proofs.Lists.{every_head, every_tail}
use Rattle.kinds.specs.Kinds.{kind_point, kind_line_string, kind_polygon, kind_multi_point, kind_multi_line_string, kind_multi_polygon, kind_geometry_collection}
use Rattle.kinds.proofs.Widths.{width_some}
use Rattle.store.specs.Rows.{Row}
use Rattle.tree.specs.Tree.{Coord, Node, point_n, line_n, polygon_n, multipoint_n, multiline_n, multipolygon_n, collection_n, Tree, rows_with, no_rows, point_rows, line_rows, polygon_rows, node_rows, rows, coord_texts, line_texts, polygon_texts, node_texts, no_texts, texts, CoordShape, LineShape, PolygonShape, NodeShape, NoShape, Shape}

every_both : {A : Type 0} (p : A → Bool) (a b : List A) → every p a ≡ true → every p b ≡ true → every p (a ++ b) ≡ true
unfolding every
every_both p [] b f g = g
every_both p (x ∷ a) b f g = rw (every_head p x a f) (every_both p a b (every_tail p x a f) g)

-- ---- what is counted is there
many : {X Y : Type 0} (f : X → List Y) (Q : X → Type 0) → ((x : X) → Q x → 1 ≤ length (f x)) → (xs : List X) → All Q xs → length xs ≤ length (flat_map f xs)
unfolding flat_map All
many f Q h [] a = omega arith
many f Q h (x ∷ xs) a = omega (arith, length-append (f x) (flat_map f xs), h x a.0, many f Q h xs a.1)

-- of a part with its rows and its number texts: no row has more parts than L, where there are at most L rows and at most L texts
module _ {X : Type 0} (ro : X → List Row) (nu : X → List (List ℕ)) (Q : X → Type 0) where
  Fit : Type 0
  Fit = (x : X) → Q x → (L : ℕ) → length (ro x) ≤ L → length (nu x) ≤ L → every (λ (r : Row). leb r.parts L) (ro x) ≡ true

  each_fits : Fit → (xs : List X) → All Q xs → (L : ℕ) → length (flat_map ro xs) ≤ L → length (flat_map nu xs) ≤ L → every (λ (r : Row). leb r.parts L) (flat_map ro xs) ≡ true
  unfolding flat_map All every Fit
  each_fits h [] a L n m = refl
  each_fits h (x ∷ xs) a L n m =
      let u = length-append (ro x) (flat_map ro xs) in
      let v = length-append (nu x) (flat_map nu xs) in
      every_both (λ (r : Row). leb r.parts L) (ro x) (flat_map ro xs) (h x a.0 L (omega arith) (omega arith)) (each_fits h xs a.1 L (omega arith) (omega arith))

  -- and of a node over such parts, each of which is counted
  over_fits : Fit → (k d : ℕ) (xs : List X) → All Q xs → (L : ℕ) → length (flat_map ro xs) ≤ L → length (flat_map nu xs) ≤ L → length xs ≤ L → every (λ (r : Row). leb r.parts L) (rows_with k d ro xs) ≡ true
  unfolding rows_with every
  over_fits h k d xs a L n m l = rw (le-leb (length xs) L l) (each_fits h xs a L n m)

  rows_over : Fit → ((x : X) → Q x → 1 ≤ length (ro x)) → (k d : ℕ) (xs : List X) → All Q xs → (L : ℕ) → length (rows_with k d ro xs) ≤ L → length (flat_map nu xs) ≤ L → every (λ (r : Row). leb r.parts L) (rows_with k d ro xs) ≡ true
  unfolding rows_with
  rows_over h s k d xs a L n m = over_fits h k d xs a L (omega arith) m (omega (arith, many ro Q s xs a))

-- ---- coordinates
bare : {X : Type 0} (xs : List X) → length (flat_map no_rows xs) ≡ 0
unfolding flat_map
bare [] = refl
bare (x ∷ xs) = bare xs

coords_fit : (k d : ℕ) (cs : List Coord) → All (CoordShape d) cs → (L : ℕ) → length (flat_map coord_texts cs) ≤ L → every (λ (r : Row). leb r.parts L) (rows_with k d no_rows cs) ≡ true
unfolding Fit every
coords_fit k d cs a L m =
    over_fits no_rows coord_texts (CoordShape d) (λ c q L n m. refl) k d cs a L (omega (arith, bare cs)) m
    (omega (arith, many coord_texts (CoordShape d) (λ c q. omega (arith, q, width_some d)) cs a))

-- ---- below kinds 3 to 6
some_row : {X : Type 0} (k d : ℕ) (ro : X → List Row) (xs : List X) → 1 ≤ length (rows_with k d ro xs)
unfolding rows_with
some_row k d ro xs = omega arith

line_fits : (d : ℕ) → Fit (line_rows d) line_texts (LineShape d)
unfolding Fit
line_fits d cs q L n m = coords_fit kind_line_string d cs q L m

point_fits : (d : ℕ) → Fit (point_rows d) coord_texts (CoordShape d)
unfolding Fit All flat_map
point_fits d c q L n m = coords_fit kind_point d (c ∷ []) (q, tt) L (rw (append-nil c) m)

lines_fit : (k d : ℕ) (ls : List (List Coord)) → All (LineShape d) ls → (L : ℕ) → length (rows_with k d (line_rows d) ls) ≤ L → length (flat_map line_texts ls) ≤ L → every (λ (r : Row). leb r.parts L) (rows_with k d (line_rows d) ls) ≡ true
lines_fit k d = rows_over (line_rows d) line_texts (LineShape d) (line_fits d) (λ cs q. some_row kind_line_string d no_rows cs) k d

polygon_fits : (d : ℕ) → Fit (polygon_rows d) polygon_texts (PolygonShape d)
unfolding Fit
polygon_fits d ls q L n m = lines_fit kind_polygon d ls q L n m

-- ---- nodes and trees
module _ {X : Type 0} (ro : X → List Row) (nu : X → List (List ℕ)) (Q : X → Type 0) (fit : Fit ro nu Q) (some : (x : X) → Q x → 1 ≤ length (ro x)) where
  node_fits : Fit (node_rows ro) (node_texts nu) (NodeShape Q)
  unfolding Fit
  node_fits (point_n d cs) g L n m = coords_fit kind_point d cs g.1 L m
  node_fits (line_n d cs) g L n m = coords_fit kind_line_string d cs g.1 L m
  node_fits (polygon_n d ls) g L n m = lines_fit kind_polygon d ls g.1 L n m
  node_fits (multipoint_n d cs) g L n m = rows_over (point_rows d) coord_texts (CoordShape d) (point_fits d) (λ c q. some_row kind_point d no_rows (c ∷ [])) kind_multi_point d cs g.1 L n m
  node_fits (multiline_n d ls) g L n m = lines_fit kind_multi_line_string d ls g.1 L n m
  node_fits (multipolygon_n d ps) g L n m = rows_over (polygon_rows d) polygon_texts (PolygonShape d) (polygon_fits d) (λ ls q. some_row kind_polygon d (line_rows d) ls) kind_multi_polygon d ps g.1 L n m
  node_fits (collection_n d ts) g L n m = rows_over ro nu Q fit some kind_geometry_collection d ts g.1 L n m

node_some : {X : Type 0} (ro : X → List Row) (x : Node X) → 1 ≤ length (node_rows ro x)
node_some ro (point_n d cs) = some_row kind_point d no_rows cs
node_some ro (line_n d cs) = some_row kind_line_string d no_rows cs
node_some ro (polygon_n d ls) = some_row kind_polygon d (line_rows d) ls
node_some ro (multipoint_n d cs) = some_row kind_multi_point d (point_rows d) cs
node_some ro (multiline_n d ls) = some_row kind_multi_line_string d (line_rows d) ls
node_some ro (multipolygon_n d ps) = some_row kind_multi_polygon d (polygon_rows d) ps
node_some ro (collection_n d ts) = some_row kind_geometry_collection d ro ts

tree_some : (d : ℕ) (t : Tree d) → 1 ≤ length (rows d t)
tree_some zero t = node_some no_rows t
tree_some (suc d) t = node_some (rows d) t

tree_fits : (d : ℕ) → Fit (rows d) (texts d) (Shape d)
unfolding Fit
tree_fits zero t g L n m = node_fits no_rows no_texts NoShape (λ x q. absurd x) (λ x q. absurd x) t g L n m
tree_fits (suc d) t g L n m = node_fits (rows d) (texts d) (Shape d) (tree_fits d) (λ x q. tree_some d x) t g L n m

-- where there are at most L rows and at most L number texts, no row has more than L parts
pub parts_fit : (d : ℕ) (t : Tree d) (L : ℕ) → Shape d t → length (rows d t) ≤ L → length (texts d t) ≤ L → every (λ (r : Row). leb r.parts L) (rows d t) ≡ true
unfolding Fit
parts_fit d t L g n m = tree_fits d t g L n m
