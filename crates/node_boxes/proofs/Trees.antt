-- The table that is filled on the way through a tree has the boxes of its nodes: for each part of a tree, below any parent.
-- Assumes nothing.
use mathlib.Core.Path.{◌≡◌, refl, ap, ap₂, sym, ◌∙◌, subst}
use mathlib.Core.Bool.{true, false, false≢true}
use mathlib.Core.List.{List, [], ◌∷◌, ◌++◌, flat_map, append_assoc, append-nil}
use Prim.Native.Nat.{ℕ, zero, suc, ◌+◌, ◌-◌, ◌*◌, ◌≤◌, ◌<◌}
use native.Mathlib.Omega.{arith}
use borrow.Author.Tests.{ne_eqb}
use lib.Dec.{leb}
use lib.IntN.{ℤ, pos}
use lib.Seq.{drop-nil, get_or-append-add}
use lib.ListN.{length, drop, get_or, length-append, length-drop, get_or-append}
use Rattle.lists.specs.Lists.{All}
use Rattle.kinds.specs.Kinds.{kind_point, kind_line_string, kind_polygon, kind_multi_point, kind_multi_line_string, kind_multi_polygon, kind_geometry_collection, width}
use Rattle.store.specs.Rows.{Row}
use Rattle.tree.specs.Tree.{Coord, Node, point_n, line_n, polygon_n, multipoint_n, multiline_n, multipolygon_n, collection_n, Tree, row_over, rows_with, no_rows, point_rows, line_rows, polygon_rows, node_rows, rows, coord_texts, line_texts, polygon_texts, node_texts, no_texts, texts, CoordShape, LineShape, PolygonShape, NodeShape, NoShape, Shape}
use Rattle.nodes.specs.declared.Frame.{Frame}
use Rattle.nodes.specs.declared.Visit.{Visit}
use Rattle.nodes.specs.declared.Met.{Met}
use Rattle.nodes.specs.declared.Met.TheVariants as met
use Rattle.nodes.specs.Nodes.{above, visit_of, frame_of, onward}
use Rattle.shape.specs.Visits.{Walker, walk_each, walk_leaf, walk_parts, walk_nest, walk_point, walk_line, walk_polygon, walk_node, walk_nothing, walk_tree}
use Rattle.std.specs.Prelude.{Ok, Err}
use Rattle.rounding.specs.Rounding.{Reckoned}
use Rattle.decimal.specs.Reckon.{reckoned}
use Rattle.decimal.specs.Spellings.{is_sides}
use Rattle.bounds.specs.declared.Bounds.{Bounds}
use Rattle.bounds.specs.Bounds.{BoxRow, box, box_row, merge, nothing, box_width, settled, closed}
use Rattle.node_boxes.specs.Holds.{Placed}
use Rattle.node_boxes.specs.Boxes.{low_in, high_in, point_coords, line_coords, polygon_coords, node_coords, no_coords, coords, leaf_boxes, nest_boxes, point_boxes, polygon_boxes, node_boxes, no_boxes, boxes}
use Rattle.node_boxes.specs.Turns.{reckoned_at, axis_next, sided_up_to, around_on, entered, table_by}
use Rattle.node_boxes.proofs.Algebra.{Inside, nothing_inside, merge_inside, merge_assoc, merge_nothing}
use Rattle.node_boxes.proofs.Rows.{over, wider, open_at, Above, above_root, above_row, close_at, settle_at}
use Rattle.node_boxes.proofs.Sides.{corner}
use Rattle.node_boxes.proofs.Totals.{total_on, total, total_inside, on_total, total_append, done_around}

-- ---- lists
drop_more : {A : Type 0} (n m : ℕ) (l : List A) → drop m (drop n l) ≡ drop (n + m) l
drop_more zero m l = let z : 0 + m ≡ m = omega arith in rw z
drop_more (suc n) m [] = rw (drop-nil m, drop-nil (suc n + m))
drop_more (suc n) m (x ∷ l) = let z : suc n + m ≡ suc (n + m) = omega arith in rw z (drop_more n m l)

placed_left : (xs ys : List Coord) → All Placed (xs ++ ys) → All Placed xs
unfolding All
placed_left [] ys p = tt
placed_left (x ∷ xs) ys p = (p.0, placed_left xs ys p.1)

placed_right : (xs ys : List Coord) → All Placed (xs ++ ys) → All Placed ys
unfolding All
placed_right [] ys p = p
placed_right (x ∷ xs) ys p = placed_right xs ys p.1

-- an X and a Y with sides widen a box on both axes
both_axes : (b : Bounds) (x y : Reckoned) → is_sides x ≡ true → is_sides y ≡ true → axis_next 1 y (axis_next 0 x b) ≡ merge b (box (low_in x) (high_in x) (low_in y) (high_in y))
unfolding merge
both_axes b (Ok x) (Ok y) e f = refl
both_axes b (Ok x) (Err n) e f = absurd (false≢true f)
both_axes b (Err n) y e f = absurd (false≢true e)

pub wide_two : (d : ℕ) → 2 ≤ width d
unfolding width
wide_two d = omega arith

-- ---- as many boxes as rows
no_rows_law : {X : Type 0} (xs : List X) → length (flat_map no_rows xs) ≡ 0
unfolding flat_map
no_rows_law [] = refl
no_rows_law (x ∷ xs) = no_rows_law xs

many_flat : {X : Type 0} (ro : X → List Row) (bo : X → List BoxRow) → ((x : X) → length (bo x) ≡ length (ro x)) → (xs : List X) → length (flat_map bo xs) ≡ length (flat_map ro xs)
unfolding flat_map
many_flat ro bo many [] = refl
many_flat ro bo many (x ∷ xs) = let a = many x in let b = many_flat ro bo many xs in simp length-append (omega (arith, a, b))

pub many_leaf : (k d : ℕ) (cs : List Coord) → length (leaf_boxes cs) ≡ length (rows_with k d no_rows cs)
unfolding rows_with
many_leaf k d cs = ap suc (sym (no_rows_law cs))

many_nest : {X : Type 0} (k d : ℕ) (ro : X → List Row) (co : X → List Coord) (bo : X → List BoxRow) → ((x : X) → length (bo x) ≡ length (ro x)) → (xs : List X) → length (nest_boxes co bo xs) ≡ length (rows_with k d ro xs)
unfolding rows_with nest_boxes
many_nest k d ro co bo many xs = ap suc (many_flat ro bo many xs)

pub many_line : (d : ℕ) (cs : List Coord) → length (leaf_boxes cs) ≡ length (line_rows d cs)
many_line d cs = many_leaf kind_line_string d cs

pub many_polygon : (d : ℕ) (ls : List (List Coord)) → length (polygon_boxes ls) ≡ length (polygon_rows d ls)
many_polygon d ls = many_nest kind_polygon d (line_rows d) line_coords leaf_boxes (many_line d) ls

many_node : {X : Type 0} (ro : X → List Row) (co : X → List Coord) (bo : X → List BoxRow) → ((x : X) → length (bo x) ≡ length (ro x)) → (n : Node X) → length (node_boxes co bo n) ≡ length (node_rows ro n)
many_node ro co bo many (point_n d cs) = many_leaf kind_point d cs
many_node ro co bo many (line_n d cs) = many_leaf kind_line_string d cs
many_node ro co bo many (polygon_n d ls) = many_nest kind_polygon d (line_rows d) line_coords leaf_boxes (many_line d) ls
many_node ro co bo many (multipoint_n d cs) = many_nest kind_multi_point d (point_rows d) point_coords point_boxes (λ c. many_leaf kind_point d (c ∷ [])) cs
many_node ro co bo many (multiline_n d ls) = many_nest kind_multi_line_string d (line_rows d) line_coords leaf_boxes (many_line d) ls
many_node ro co bo many (multipolygon_n d ps) = many_nest kind_multi_polygon d (polygon_rows d) polygon_coords polygon_boxes (many_polygon d) ps
many_node ro co bo many (collection_n d ts) = many_nest kind_geometry_collection d ro co bo many ts

pub as_many : (d : ℕ) (t : Tree d) → length (boxes d t) ≡ length (rows d t)
as_many zero t = many_node no_rows no_coords no_boxes (λ x. refl) t
as_many (suc d) t = many_node (rows d) (coords d) (boxes d) (as_many d) t

module _ (text numbers : List ℕ) where
  -- the number rows from j on come to what these texts come to
  unfoldable pub Reads : ℕ → List (List ℕ) → Type 0
  Reads j ts = (k : ℕ) → k < length ts → reckoned_at text numbers (j + k) ≡ reckoned (get_or ts k [])

  pub reads_left : (j : ℕ) (xs ys : List (List ℕ)) → Reads j (xs ++ ys) → Reads j xs
  unfolding Reads
  reads_left j xs ys r k h = r k (simp length-append (omega arith)) ∙ ap reckoned (get_or-append xs ys [] k h)

  pub reads_right : (j : ℕ) (xs ys : List (List ℕ)) → Reads j (xs ++ ys) → Reads (j + length xs) ys
  unfolding Reads
  reads_right j xs ys r k h =
      let z : j + length xs + k ≡ j + (length xs + k) = omega arith in
      rw z (r (length xs + k) (simp length-append (omega arith)) ∙ ap reckoned (get_or-append-add xs ys k []))

  table_append : (t : List ℤ) (ms ns : List Met) → table_by text numbers t (ms ++ ns) ≡ table_by text numbers (table_by text numbers t ms) ns
  unfolding table_by
  table_append t [] ns = refl
  table_append t (met.Node v ∷ ms) ns = table_append (entered text numbers v t) ms ns
  table_append t (met.End i n ∷ ms) ns = table_append (closed t i) ms ns
  table_append t (met.Done ∷ ms) ns = table_append t ms ns
  table_append t (met.Ill ∷ ms) ns = table_append t ms ns

  -- ---- a node's own coordinates
  sided_at : (d at : ℕ) (b : Bounds) (c : Coord) (ts : List (List ℕ)) → length c ≡ width d → Placed c → Reads at (c ++ ts) → sided_up_to text numbers at 2 b ≡ merge b (corner c)
  unfolding Reads sided_up_to
  sided_at d at b [] ts e p r = absurd (omega (arith, e, wide_two d))
  sided_at d at b (x ∷ []) ts e p r = absurd (omega (arith, e, wide_two d))
  sided_at d at b (x ∷ y ∷ c) ts e p r =
      ap₂ (λ u v. axis_next 1 v (axis_next 0 u b)) (r 0 (omega arith)) (r 1 (omega arith)) ∙ both_axes b (reckoned x) (reckoned y) p.x p.y

  around_own : (d at : ℕ) (b : Bounds) (cs : List Coord) → All (CoordShape d) cs → All Placed cs → Reads at (flat_map coord_texts cs) → around_on text numbers (width d) at (length cs) b ≡ total_on b cs
  unfolding around_on total_on flat_map All
  around_own d at b [] s p r = refl
  around_own d at b (c ∷ cs) s p r =
      ap (around_on text numbers (width d) (at + width d) (length cs)) (sided_at d at b c (flat_map coord_texts cs) s.0 p.0 r)
      ∙ around_own d (at + width d) (merge b (corner c)) cs s.1 p.1 (subst (λ n. Reads (at + n) (flat_map coord_texts cs)) s.0 (reads_right at c (flat_map coord_texts cs) r))

  -- ---- a part is filled in below a parent
  unfoldable Fills : {X : Type 0} → (X → List Row) → (X → List (List ℕ)) → (X → List Coord) → (X → List BoxRow) → (X → Type 0) → Walker X → Type 0
  Fills {X} ro nu co bo Q w =
      (f : Frame) (i j : ℕ) (x : X) (before : List BoxRow) (after : Bounds → List BoxRow) → Above f.row before after → length before ≡ i → Q x → All Placed (co x) → Reads j (nu x) → (t : List ℤ) → length (ro x) * box_width ≤ length t
      → table_by text numbers (over before t) (w f i j x) ≡ over (after (total (co x)) ++ bo x) (drop (length (ro x) * box_width) t)

  leaf_fills : (k d : ℕ) → leb k kind_line_string ≡ true → Fills (rows_with k d no_rows) (flat_map coord_texts) line_coords leaf_boxes (All (CoordShape d)) (walk_leaf k d)
  unfolding Fills table_by entered rows_with
  leaf_fills k d e f i j cs before after a l q p r t h =
      let one : suc (length (flat_map no_rows cs)) * box_width ≡ box_width = let z = no_rows_law cs in omega (arith, z) in
      rw (e, one, ← l)
      (ap (settled (over before t) (length before) f.row) (around_own d j nothing cs q p r)
      ∙ settle_at a (total cs) t (omega (arith, one))
      ∙ ap (λ x. over (after (total cs) ++ (x ∷ [])) (drop box_width t)) (done_around cs))

  -- ---- parts, one after the other, each of which widens the row of their parent
  module _ {X : Type 0} (ro : X → List Row) (nu : X → List (List ℕ)) (co : X → List Coord) (bo : X → List BoxRow) (Q : X → Type 0) (w : Walker X) (fills : Fills ro nu co bo Q w) (many : (x : X) → length (bo x) ≡ length (ro x)) where
    each_fills : (xs : List X) (f : Frame) (i j : ℕ) (us : List BoxRow) (r : BoxRow) (vs : List BoxRow) → f.row ≡ length us → length (us ++ (r ∷ vs)) ≡ i → Inside r.bounds → All Q xs → All Placed (flat_map co xs) → Reads j (flat_map nu xs)
        → (t : List ℤ) → length (flat_map ro xs) * box_width ≤ length t
        → table_by text numbers (over (us ++ (r ∷ vs)) t) (walk_each ro nu w f i j xs) ≡ over (us ++ (wider r (total (flat_map co xs)) ∷ (vs ++ flat_map bo xs))) (drop (length (flat_map ro xs) * box_width) t)
    unfolding walk_each flat_map table_by total_on All Fills
    each_fills [] f i j us r vs row l ins q p s t h = rw (merge_nothing r.bounds ins, append-nil vs)
    each_fills (x ∷ xs) f i j us r vs row l ins q p s t h =
        let n : ℕ = length (ro x) * box_width in
        let m : ℕ = length (flat_map ro xs) * box_width in
        let sum : length (ro x ++ flat_map ro xs) * box_width ≡ n + m = simp length-append (omega arith) in
        let long : length (drop n t) ≡ length t - n = length-drop n t in
        table_append (over (us ++ (r ∷ vs)) t) (w f i j x) (walk_each ro nu w (onward f) (i + length (ro x)) (j + length (nu x)) xs)
        ∙ ap (λ u. table_by text numbers u (walk_each ro nu w (onward f) (i + length (ro x)) (j + length (nu x)) xs)) (one x q.0 (placed_left (co x) (flat_map co xs) p) (reads_left j (nu x) (flat_map nu xs) s) (omega (arith, sum, h)))
        ∙ each_fills xs (onward f) (i + length (ro x)) (j + length (nu x)) us (wider r (total (co x))) (vs ++ bo x) row (longer x) (merge_inside ins (total_inside (co x))) q.1 (placed_right (co x) (flat_map co xs) p) (reads_right j (nu x) (flat_map nu xs) s) (drop n t) (omega (arith, sum, h, long))
        ∙ ap₂ (λ b l. over (us ++ (box_row r.first b ∷ l)) (drop m (drop n t))) (merge_assoc r.bounds (total (co x)) (total (flat_map co xs)) ∙ ap (merge r.bounds) (sym (total_append (co x) (flat_map co xs)))) (append_assoc vs (bo x) (flat_map bo xs))
        ∙ ap (over (us ++ (wider r (total (co x ++ flat_map co xs)) ∷ (vs ++ (bo x ++ flat_map bo xs))))) (drop_more n m t ∙ ap (λ k. drop k t) (sym sum))
      where
        one : (x : X) → Q x → All Placed (co x) → Reads j (nu x) → length (ro x) * box_width ≤ length t → table_by text numbers (over (us ++ (r ∷ vs)) t) (w f i j x) ≡ over (us ++ (wider r (total (co x)) ∷ (vs ++ bo x))) (drop (length (ro x) * box_width) t)
        one x q p s h =
            let above : Above f.row (us ++ (r ∷ vs)) (λ b. us ++ (wider r b ∷ vs)) = rw row (above_row us r vs) in
            fills f i j x (us ++ (r ∷ vs)) (λ b. us ++ (wider r b ∷ vs)) above l q p s t h ∙ ap (λ ys. over ys (drop (length (ro x) * box_width) t)) (append_assoc us (wider r (total (co x)) ∷ vs) (bo x))

        longer : (x : X) → length (us ++ (wider r (total (co x)) ∷ (vs ++ bo x))) ≡ i + length (ro x)
        longer x =
            let e : length (us ++ (r ∷ vs)) ≡ length us + suc (length vs) = length-append us (r ∷ vs) in
            let g = many x in
            simp length-append (omega (arith, e, g, l))

    -- a node whose parts have rows
    nest_fills : (k d : ℕ) → leb k kind_line_string ≡ false → Fills (rows_with k d ro) (flat_map nu) (flat_map co) (nest_boxes co bo) (All Q) (walk_nest ro nu w k d)
    unfolding Fills table_by entered rows_with walk_parts nest_boxes flat_map total_on
    nest_fills k d e f i j [] before after a l q p r t h =
        rw (e, ← l)
        (ap (λ u. closed u (length before)) (open_at before t f.row h a.below)
        ∙ close_at a nothing [] (drop box_width t)
        ∙ ap (λ b. over (after nothing ++ (b ∷ [])) (drop box_width t)) (done_around []))
    nest_fills k d e f i j (x ∷ xs) before after a l q p r t h =
        let full : List X = x ∷ xs in
        let m : ℕ = length (flat_map ro full) * box_width in
        let sum : suc (length (flat_map ro full)) * box_width ≡ box_width + m = omega arith in
        let long : length (drop box_width t) ≡ length t - box_width = length-drop box_width t in
        let next : length (before ++ (box_row (pos f.row) nothing ∷ [])) ≡ i + 1 = simp length-append (omega (arith, l)) in
        let b : Bounds = total (flat_map co full) in
        ap (λ u. table_by text numbers u (inner ++ (met.End i (suc (length (flat_map ro full))) ∷ []))) opens
        ∙ table_append (over (before ++ (box_row (pos f.row) nothing ∷ [])) (drop box_width t)) inner (met.End i (suc (length (flat_map ro full))) ∷ [])
        ∙ ap (λ u. closed u i) (each_fills full (frame_of v) (i + 1) j before (box_row (pos f.row) nothing) [] (sym l) next nothing_inside q p r (drop box_width t) (omega (arith, sum, long, h)))
        ∙ ap₂ (λ c n. closed (over (before ++ (box_row (pos f.row) c ∷ flat_map bo full)) (drop m (drop box_width t))) n) (sym (on_total nothing (flat_map co full) nothing_inside)) (sym l)
        ∙ close_at a b (flat_map bo full) (drop m (drop box_width t))
        ∙ ap₂ (λ c u. over (after b ++ (c ∷ flat_map bo full)) u) (done_around (flat_map co full)) (drop_more box_width m t ∙ ap (λ n. drop n t) (sym sum))
      where
        v : Visit
        v = visit_of i j f (row_over k d ro (x ∷ xs))

        inner : List Met
        inner = walk_each ro nu w (frame_of v) (i + 1) j (x ∷ xs)

        opens : entered text numbers v (over before t) ≡ over (before ++ (box_row (pos f.row) nothing ∷ [])) (drop box_width t)
        opens = rw (e, ne_eqb (suc (length xs)) 0 (λ z. omega arith), ← l) (open_at before t f.row (omega (arith, h)) a.below)

  -- ---- the parts of kinds 3 to 6
  point_fills : (d : ℕ) → Fills (point_rows d) coord_texts point_coords point_boxes (CoordShape d) (walk_point d)
  unfolding Fills All flat_map
  point_fills d f i j c before after a l q p r t h = leaf_fills kind_point d refl f i j (c ∷ []) before after a l (q, tt) p (rw (append-nil c) r) t h

  line_fills : (d : ℕ) → Fills (line_rows d) line_texts line_coords leaf_boxes (LineShape d) (walk_line d)
  line_fills d = leaf_fills kind_line_string d refl

  polygon_fills : (d : ℕ) → Fills (polygon_rows d) polygon_texts polygon_coords polygon_boxes (PolygonShape d) (walk_polygon d)
  polygon_fills d = nest_fills (line_rows d) line_texts line_coords leaf_boxes (LineShape d) (walk_line d) (line_fills d) (many_line d) kind_polygon d refl

  -- ---- nodes and trees
  module _ {X : Type 0} (ro : X → List Row) (nu : X → List (List ℕ)) (co : X → List Coord) (bo : X → List BoxRow) (Q : X → Type 0) (w : Walker X) (fills : Fills ro nu co bo Q w) (many : (x : X) → length (bo x) ≡ length (ro x)) where
    node_fills : Fills (node_rows ro) (node_texts nu) (node_coords co) (node_boxes co bo) (NodeShape Q) (walk_node ro nu w)
    unfolding Fills
    node_fills f i j (point_n d cs) before after a l q p r t h = leaf_fills kind_point d refl f i j cs before after a l q.1 p r t h
    node_fills f i j (line_n d cs) before after a l q p r t h = leaf_fills kind_line_string d refl f i j cs before after a l q.1 p r t h
    node_fills f i j (polygon_n d ls) before after a l q p r t h = nest_fills (line_rows d) line_texts line_coords leaf_boxes (LineShape d) (walk_line d) (line_fills d) (many_line d) kind_polygon d refl f i j ls before after a l q.1 p r t h
    node_fills f i j (multipoint_n d cs) before after a l q p r t h = nest_fills (point_rows d) coord_texts point_coords point_boxes (CoordShape d) (walk_point d) (point_fills d) (λ c. many_leaf kind_point d (c ∷ [])) kind_multi_point d refl f i j cs before after a l q.1 p r t h
    node_fills f i j (multiline_n d ls) before after a l q p r t h = nest_fills (line_rows d) line_texts line_coords leaf_boxes (LineShape d) (walk_line d) (line_fills d) (many_line d) kind_multi_line_string d refl f i j ls before after a l q.1 p r t h
    node_fills f i j (multipolygon_n d ps) before after a l q p r t h = nest_fills (polygon_rows d) polygon_texts polygon_coords polygon_boxes (PolygonShape d) (walk_polygon d) (polygon_fills d) (many_polygon d) kind_multi_polygon d refl f i j ps before after a l q.1 p r t h
    node_fills f i j (collection_n d ts) before after a l q p r t h = nest_fills ro nu co bo Q w fills many kind_geometry_collection d refl f i j ts before after a l q.1 p r t h

  nothing_fills : (X : Type 0) → Fills {X = X} no_rows no_texts no_coords no_boxes NoShape walk_nothing
  unfolding Fills
  nothing_fills X f i j x before after a l q p r t h = absurd q

  tree_fills : (d : ℕ) → Fills (rows d) (texts d) (coords d) (boxes d) (Shape d) (walk_tree d)
  tree_fills zero = node_fills no_rows no_texts no_coords no_boxes NoShape walk_nothing (nothing_fills ⊥) (λ x. refl)
  tree_fills (suc d) = node_fills (rows d) (texts d) (coords d) (boxes d) (Shape d) (walk_tree d) (tree_fills d) (as_many d)

  -- from above the root: the boxes of the tree's nodes, and then what lay behind them
  pub root_fills : (d : ℕ) (x : Tree d) → Shape d x → All Placed (coords d x) → Reads 0 (texts d x) → (t : List ℤ) → length (rows d x) * box_width ≤ length t → table_by text numbers t (walk_tree d above 0 0 x) ≡ over (boxes d x) (drop (length (rows d x) * box_width) t)
  unfolding Fills
  root_fills d x q p r t h = tree_fills d above 0 0 x [] (λ b. []) above_root refl q p r t h
