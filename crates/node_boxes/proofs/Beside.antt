-- The rows of the table beside the nodes: each is the box around the node's own and its descendants' coordinates, and lies in the row of the node's parent.
-- Assumes nothing.
use mathlib.Core.Path.{◌≡◌, refl, ap, ap₂, sym, ◌∙◌, subst}
use mathlib.Core.Bool.{Bool, true, false, cond}
use mathlib.Core.List.Memᴰ
use mathlib.Core.List.{List, [], ◌∷◌, ◌++◌, map, flat_map, Memᴰ}
use Prim.Native.Nat.{ℕ, zero, suc, ◌+◌, ◌-◌, ◌*◌, ◌≤◌, ◌<◌}
use native.Mathlib.Omega.{arith}
use borrow.Author.Tests.{ltb-false}
use lib.Dec.{ltb}
use lib.IntN.{ℤ, pos}
use lib.ListN.{length, drop, get_or, length-append, get_or-append, get_or-map}
use lib.Seq.{get_or-append-add}
use Rattle.lists.specs.Lists.{All}
use Rattle.kinds.specs.Kinds.{kind_point, kind_line_string, kind_polygon, kind_multi_point, kind_multi_line_string, kind_multi_polygon, kind_geometry_collection}
use Rattle.store.specs.Rows.{Row}
use Rattle.tree.specs.Tree.{Coord, Node, point_n, line_n, polygon_n, multipoint_n, multiline_n, multipolygon_n, collection_n, Tree, row_over, rows_with, no_rows, point_rows, line_rows, polygon_rows, rows, coord_texts, line_texts, polygon_texts, no_texts, texts}
use Rattle.nodes.specs.declared.Frame.{Frame}
use Rattle.nodes.specs.declared.Met.{Met}
use Rattle.nodes.specs.declared.Met.TheVariants as met
use Rattle.nodes.specs.Nodes.{above, visit_of, frame_of, onward}
use Rattle.shape.specs.Visits.{Walker, walk_each, walk_leaf, walk_parts, walk_nest, walk_point, walk_line, walk_polygon, walk_node, walk_nothing, walk_tree}
use Rattle.bounds.specs.Bounds.{BoxRow, no_box, box_width, box_room, five_of, box_cell, zeros, padded}
use Rattle.node_boxes.specs.Boxes.{box_around, point_coords, line_coords, polygon_coords, node_coords, no_coords, coords, leaf_boxes, nest_boxes, point_boxes, polygon_boxes, node_boxes, no_boxes, boxes}
use Rattle.node_boxes.specs.Holds.{LiesIn, leaf_own, nest_own, point_own, polygon_own, node_own, no_own, each_coords, row_at, InParent}
use Rattle.node_boxes.proofs.Trees.{as_many, many_line, many_polygon, many_leaf}
use Rattle.node_boxes.proofs.Holds.{box_none, part_inside, inside_self}

-- ---- each row is the box around its node's coordinates
map_append : (a b : List (List Coord)) → map box_around (a ++ b) ≡ map box_around a ++ map box_around b
map_append [] b = refl
map_append (x ∷ a) b = ap (λ l. box_around x ∷ l) (map_append a b)

flat_boxes : {X : Type 0} (own : X → List (List Coord)) (bo : X → List BoxRow) → ((x : X) → map box_around (own x) ≡ bo x) → (xs : List X) → map box_around (flat_map own xs) ≡ flat_map bo xs
unfolding flat_map
flat_boxes own bo same [] = refl
flat_boxes own bo same (x ∷ xs) = map_append (own x) (flat_map own xs) ∙ ap₂ (λ a b. a ++ b) (same x) (flat_boxes own bo same xs)

nest_boxes_law : {X : Type 0} (co : X → List Coord) (own : X → List (List Coord)) (bo : X → List BoxRow) → ((x : X) → map box_around (own x) ≡ bo x) → (xs : List X) → map box_around (nest_own co own xs) ≡ nest_boxes co bo xs
unfolding nest_own nest_boxes
nest_boxes_law co own bo same xs = ap (λ l. box_around (flat_map co xs) ∷ l) (flat_boxes own bo same xs)

node_boxes_law : {X : Type 0} (co : X → List Coord) (own : X → List (List Coord)) (bo : X → List BoxRow) → ((x : X) → map box_around (own x) ≡ bo x) → (n : Node X) → map box_around (node_own co own n) ≡ node_boxes co bo n
node_boxes_law co own bo same (point_n d cs) = refl
node_boxes_law co own bo same (line_n d cs) = refl
node_boxes_law co own bo same (polygon_n d ls) = nest_boxes_law line_coords leaf_own leaf_boxes (λ cs. refl) ls
node_boxes_law co own bo same (multipoint_n d cs) = nest_boxes_law point_coords point_own point_boxes (λ c. refl) cs
node_boxes_law co own bo same (multiline_n d ls) = nest_boxes_law line_coords leaf_own leaf_boxes (λ cs. refl) ls
node_boxes_law co own bo same (multipolygon_n d ps) = nest_boxes_law polygon_coords polygon_own polygon_boxes (nest_boxes_law line_coords leaf_own leaf_boxes (λ cs. refl)) ps
node_boxes_law co own bo same (collection_n d ts) = nest_boxes_law co own bo same ts

pub each_box : (d : ℕ) (t : Tree d) → map box_around (each_coords d t) ≡ boxes d t
each_box zero t = node_boxes_law no_coords no_own no_boxes (λ x. refl) t
each_box (suc d) t = node_boxes_law (coords d) (each_coords d) (boxes d) (each_box d) t

pub box_at : (d : ℕ) (t : Tree d) (i : ℕ) → get_or (boxes d t) i no_box ≡ box_around (get_or (each_coords d t) i [])
box_at d t i = ap₂ (λ (l : List BoxRow) (r : BoxRow). get_or l i r) (sym (each_box d t)) (sym box_none) ∙ get_or-map box_around (each_coords d t) i []

-- ---- a node's coordinates are among the tree's
abbrev Among : List Coord → List Coord → Type 0
Among cs ds = (c : Coord) → Memᴰ c ds → Memᴰ c cs

pub all_join : {A : Type 0} (Q : A → Type 0) (a b : List A) → All Q a → All Q b → All Q (a ++ b)
unfolding All
all_join Q [] b p q = q
all_join Q (x ∷ a) b p q = (p.0, all_join Q a b p.1 q)

all_weaker : {A : Type 0} (P Q : A → Type 0) → ((a : A) → P a → Q a) → (l : List A) → All P l → All Q l
unfolding All
all_weaker P Q f [] h = tt
all_weaker P Q f (x ∷ l) h = (f x h.0, all_weaker P Q f l h.1)

all_at : (Q : List Coord → Type 0) → Q [] → (l : List (List Coord)) (i : ℕ) → All Q l → Q (get_or l i [])
unfolding All
all_at Q q [] i h = q
all_at Q q (x ∷ l) zero h = h.0
all_at Q q (x ∷ l) (suc i) h = all_at Q q l i h.1

flat_among : {X : Type 0} (co : X → List Coord) (own : X → List (List Coord)) → ((x : X) → All (Among (co x)) (own x)) → (xs : List X) → All (Among (flat_map co xs)) (flat_map own xs)
unfolding flat_map All
flat_among co own each [] = tt
flat_among co own each (x ∷ xs) =
    all_join (Among (co x ++ flat_map co xs)) (own x) (flat_map own xs)
    (all_weaker (Among (co x)) (Among (co x ++ flat_map co xs)) (λ ds f c m. Memᴰ.append_left (flat_map co xs) (f c m)) (own x) (each x))
    (all_weaker (Among (flat_map co xs)) (Among (co x ++ flat_map co xs)) (λ ds f c m. Memᴰ.append_right (co x) (f c m)) (flat_map own xs) (flat_among co own each xs))

leaf_among : (cs : List Coord) → All (Among cs) (leaf_own cs)
unfolding All
leaf_among cs = ((λ c m. m), tt)

nest_among : {X : Type 0} (co : X → List Coord) (own : X → List (List Coord)) → ((x : X) → All (Among (co x)) (own x)) → (xs : List X) → All (Among (flat_map co xs)) (nest_own co own xs)
unfolding nest_own All
nest_among co own each xs = ((λ c m. m), flat_among co own each xs)

node_among : {X : Type 0} (co : X → List Coord) (own : X → List (List Coord)) → ((x : X) → All (Among (co x)) (own x)) → (n : Node X) → All (Among (node_coords co n)) (node_own co own n)
node_among co own each (point_n d cs) = leaf_among cs
node_among co own each (line_n d cs) = leaf_among cs
node_among co own each (polygon_n d ls) = nest_among line_coords leaf_own leaf_among ls
node_among co own each (multipoint_n d cs) = nest_among point_coords point_own (λ c. leaf_among (c ∷ [])) cs
node_among co own each (multiline_n d ls) = nest_among line_coords leaf_own leaf_among ls
node_among co own each (multipolygon_n d ps) = nest_among polygon_coords polygon_own (nest_among line_coords leaf_own leaf_among) ps
node_among co own each (collection_n d ts) = nest_among co own each ts

each_among : (d : ℕ) (t : Tree d) → All (Among (coords d t)) (each_coords d t)
unfolding All
each_among zero t = node_among no_coords no_own (λ x. tt) t
each_among (suc d) t = node_among (coords d) (each_coords d) (each_among d) t

pub coords_at : (d : ℕ) (t : Tree d) (i : ℕ) (c : Coord) → Memᴰ c (get_or (each_coords d t) i []) → Memᴰ c (coords d t)
coords_at d t i = all_at (Among (coords d t)) (λ c m. absurd (elim m [ ])) (each_coords d t) i (each_among d t)

-- ---- row i of the table that is left is row i of the boxes, and there are zeros behind them
zero_at : (n k : ℕ) → get_or (zeros n) k (pos 0) ≡ pos 0
zero_at zero k = refl
zero_at (suc n) zero = refl
zero_at (suc n) (suc k) = zero_at n k

cells : (rs : List BoxRow) (n i c : ℕ) → c < box_width → get_or (flat_map five_of rs ++ zeros n) (i * box_width + c) (pos 0) ≡ get_or (five_of (get_or rs i no_box)) c (pos 0)
unfolding flat_map
cells [] n i c h = zero_at n (i * box_width + c) ∙ sym (five_zeros c)
  where
    five_zeros : (c : ℕ) → get_or (five_of no_box) c (pos 0) ≡ pos 0
    five_zeros zero = refl
    five_zeros (suc zero) = refl
    five_zeros (suc (suc zero)) = refl
    five_zeros (suc (suc (suc zero))) = refl
    five_zeros (suc (suc (suc (suc zero)))) = refl
    five_zeros (suc (suc (suc (suc (suc c))))) = refl
cells (r ∷ rs) n zero c h = ap (λ k. get_or (five_of r ++ flat_map five_of rs ++ zeros n) k (pos 0)) z ∙ get_or-append (five_of r) (flat_map five_of rs ++ zeros n) (pos 0) c h
  where
    z : 0 * box_width + c ≡ c
    z = omega arith
cells (r ∷ rs) n (suc i) c h =
    let z : suc i * box_width + c ≡ suc (suc (suc (suc (suc (i * box_width + c))))) = omega arith in
    ap (λ k. get_or (five_of r ++ flat_map five_of rs ++ zeros n) k (pos 0)) z ∙ cells rs n i c h

pub zeros_long : (m : ℕ) → length (zeros m) ≡ m
zeros_long zero = refl
zeros_long (suc m) = ap suc (zeros_long m)

drop_front : (a b : List ℤ) (n : ℕ) → length a ≡ n → drop n (a ++ b) ≡ b
drop_front [] b zero e = refl
drop_front [] b (suc n) e = absurd (omega (arith, e))
drop_front (x ∷ a) b zero e = absurd (omega (arith, e))
drop_front (x ∷ a) b (suc n) e = drop_front a b n (omega (arith, e))

five_each : (l : List BoxRow) → length (flat_map five_of l) ≡ length l * box_width
unfolding flat_map
five_each [] = refl
five_each (r ∷ l) = let ih = five_each l in omega (arith, ih)

module _ (rs : List BoxRow) (n : ℕ) (fits : length rs * box_width ≤ n) where
  many : length (flat_map five_of rs) ≡ length rs * box_width
  many = five_each rs

  abbrev left : List ℤ
  left = padded (flat_map five_of rs) n

  pub padded_long : length left ≡ n
  padded_long = length-append (flat_map five_of rs) (zeros (n - length (flat_map five_of rs))) ∙ ap (λ k. length (flat_map five_of rs) + k) (zeros_long (n - length (flat_map five_of rs))) ∙ (let m = many in omega (arith, m, fits))

  pub padded_rest : drop (length rs * box_width) left ≡ zeros (n - length rs * box_width)
  padded_rest = drop_front (flat_map five_of rs) (zeros (n - length (flat_map five_of rs))) (length rs * box_width) many ∙ ap (λ m. zeros (n - m)) many

  past : (l : List BoxRow) (i : ℕ) → length l ≤ i → get_or l i no_box ≡ no_box
  past [] i h = refl
  past (r ∷ l) zero h = absurd (omega arith)
  past (r ∷ l) (suc i) h = past l i (omega arith)

  cell_is : (i c : ℕ) → c < box_width → box_cell left i c ≡ get_or (five_of (get_or rs i no_box)) c (pos 0)
  unfolding box_cell
  cell_is i c h = go (ltb i (box_room left)) refl
    where
      none : (c : ℕ) → pos 0 ≡ get_or (five_of no_box) c (pos 0)
      none zero = refl
      none (suc zero) = refl
      none (suc (suc zero)) = refl
      none (suc (suc (suc zero))) = refl
      none (suc (suc (suc (suc zero)))) = refl
      none (suc (suc (suc (suc (suc c))))) = refl

      go : (b : Bool) → ltb i (box_room left) ≡ b → cond b (get_or left (i * box_width + c) (pos 0)) (pos 0) ≡ get_or (five_of (get_or rs i no_box)) c (pos 0)
      go true e = cells rs (n - length (flat_map five_of rs)) i c h
      go false e =
          let k = ltb-false i (box_room left) e in
          let l = padded_long in
          none c ∙ ap (λ r. get_or (five_of r) c (pos 0)) (sym (past rs i (omega (arith, k, l, fits))))

  pub row_at_law : (i : ℕ) → row_at left i ≡ get_or rs i no_box
  row_at_law i = rw (cell_is i 0 (omega arith), cell_is i 1 (omega arith), cell_is i 2 (omega arith), cell_is i 3 (omega arith), cell_is i 4 (omega arith))

-- ---- a child's box lies in its parent's, on the way through the tree
module _ (B : List BoxRow) where
  abbrev at : ℕ → BoxRow
  at i = get_or B i no_box

  -- these rows stand from row i on
  unfoldable Sits : ℕ → List BoxRow → Type 0
  Sits i rs = (k : ℕ) → k < length rs → at (i + k) ≡ get_or rs k no_box

  sits_head : (i : ℕ) (r : BoxRow) (rs : List BoxRow) → Sits i (r ∷ rs) → at i ≡ r
  unfolding Sits
  sits_head i r rs s = let z : i + 0 ≡ i = omega arith in ap at (sym z) ∙ s 0 (omega arith)

  sits_tail : (i : ℕ) (r : BoxRow) (rs : List BoxRow) → Sits i (r ∷ rs) → Sits (i + 1) rs
  unfolding Sits
  sits_tail i r rs s k h = let z : i + 1 + k ≡ i + suc k = omega arith in ap at z ∙ s (suc k) (omega arith)

  sits_left : (i : ℕ) (xs ys : List BoxRow) → Sits i (xs ++ ys) → Sits i xs
  unfolding Sits
  sits_left i xs ys s k h = s k (simp length-append (omega arith)) ∙ get_or-append xs ys no_box k h

  sits_right : (i : ℕ) (xs ys : List BoxRow) → Sits i (xs ++ ys) → Sits (i + length xs) ys
  unfolding Sits
  sits_right i xs ys s k h = let z : i + length xs + k ≡ i + (length xs + k) = omega arith in ap at z ∙ s (length xs + k) (simp length-append (omega arith)) ∙ get_or-append-add xs ys k no_box

  abbrev Below : {X : Type 0} → (X → List Coord) → (X → List BoxRow) → Walker X → Type 0
  Below {X} co bo w = (f : Frame) (i j : ℕ) (x : X) → Sits i (bo x) → LiesIn (box_around (co x)) (at f.row) → All (InParent at) (w f i j x)

  each_below : {X : Type 0} (ro : X → List Row) (nu : X → List (List ℕ)) (w : Walker X) (co : X → List Coord) (bo : X → List BoxRow) → ((x : X) → length (bo x) ≡ length (ro x)) → Below co bo w → (f : Frame) (i j : ℕ) (xs : List X) → Sits i (flat_map bo xs) → ((x : X) → Memᴰ x xs → LiesIn (box_around (co x)) (at f.row)) → All (InParent at) (walk_each ro nu w f i j xs)
  unfolding walk_each flat_map All
  each_below ro nu w co bo same below f i j [] s h = tt
  each_below ro nu w co bo same below f i j (x ∷ xs) s h =
      all_join (InParent at) (w f i j x) (walk_each ro nu w (onward f) (i + length (ro x)) (j + length (nu x)) xs)
      (below f i j x (sits_left i (bo x) (flat_map bo xs) s) (h x (Memᴰ.head refl)))
      (each_below ro nu w co bo same below (onward f) (i + length (ro x)) (j + length (nu x)) xs (subst (λ n. Sits (i + n) (flat_map bo xs)) (same x) (sits_right i (bo x) (flat_map bo xs) s)) (λ y m. h y (Memᴰ.tail m)))

  nest_below : {X : Type 0} (ro : X → List Row) (nu : X → List (List ℕ)) (w : Walker X) (co : X → List Coord) (bo : X → List BoxRow) → ((x : X) → length (bo x) ≡ length (ro x)) → Below co bo w → (k d : ℕ) → Below (flat_map co) (nest_boxes co bo) (walk_nest ro nu w k d)
  unfolding walk_parts nest_boxes All
  nest_below ro nu w co bo same below k d f i j [] s h = (subst (λ r. LiesIn r (at f.row)) (sym (sits_head i (box_around (flat_map co [])) (flat_map bo []) s)) h, tt)
  nest_below ro nu w co bo same below k d f i j (x ∷ xs) s h =
      let here = sits_head i (box_around (flat_map co (x ∷ xs))) (flat_map bo (x ∷ xs)) s in
      let v = visit_of i j f (row_over k d ro (x ∷ xs)) in (
        subst (λ r. LiesIn r (at f.row)) (sym here) h,
        all_join (InParent at) (walk_each ro nu w (frame_of v) (i + 1) j (x ∷ xs)) (met.End i (length (rows_with k d ro (x ∷ xs))) ∷ [])
            (each_below ro nu w co bo same below (frame_of v) (i + 1) j (x ∷ xs) (sits_tail i (box_around (flat_map co (x ∷ xs))) (flat_map bo (x ∷ xs)) s) (λ y m. subst (λ r. LiesIn (box_around (co y)) r) (sym here) (part_inside co y (x ∷ xs) m)))
            (tt, tt),
      )

  leaf_below : (k d : ℕ) → Below (λ cs. cs) leaf_boxes (walk_leaf k d)
  unfolding All
  leaf_below k d f i j cs s h = (subst (λ r. LiesIn r (at f.row)) (sym (sits_head i (box_around cs) [] s)) h, tt)

  node_below : {X : Type 0} (ro : X → List Row) (nu : X → List (List ℕ)) (w : Walker X) (co : X → List Coord) (bo : X → List BoxRow) → ((x : X) → length (bo x) ≡ length (ro x)) → Below co bo w → Below (node_coords co) (node_boxes co bo) (walk_node ro nu w)
  node_below ro nu w co bo same below f i j (point_n d cs) s h = leaf_below kind_point d f i j cs s h
  node_below ro nu w co bo same below f i j (line_n d cs) s h = leaf_below kind_line_string d f i j cs s h
  node_below ro nu w co bo same below f i j (polygon_n d ls) s h = nest_below (line_rows d) line_texts (walk_line d) line_coords leaf_boxes (many_line d) (leaf_below kind_line_string d) kind_polygon d f i j ls s h
  node_below ro nu w co bo same below f i j (multipoint_n d cs) s h = nest_below (point_rows d) coord_texts (walk_point d) point_coords point_boxes (λ c. many_leaf kind_point d (c ∷ [])) (λ f i j c. leaf_below kind_point d f i j (c ∷ [])) kind_multi_point d f i j cs s h
  node_below ro nu w co bo same below f i j (multiline_n d ls) s h = nest_below (line_rows d) line_texts (walk_line d) line_coords leaf_boxes (many_line d) (leaf_below kind_line_string d) kind_multi_line_string d f i j ls s h
  node_below ro nu w co bo same below f i j (multipolygon_n d ps) s h =
      nest_below (polygon_rows d) polygon_texts (walk_polygon d) polygon_coords polygon_boxes (many_polygon d)
      (nest_below (line_rows d) line_texts (walk_line d) line_coords leaf_boxes (many_line d) (leaf_below kind_line_string d) kind_polygon d) kind_multi_polygon d f i j ps s h
  node_below ro nu w co bo same below f i j (collection_n d ts) s h = nest_below ro nu w co bo same below kind_geometry_collection d f i j ts s h

  tree_below : (d : ℕ) → Below (coords d) (boxes d) (walk_tree d)
  unfolding All
  tree_below zero = node_below no_rows no_texts walk_nothing no_coords no_boxes (λ x. refl) (λ f i j x s h. tt)
  tree_below (suc d) = node_below (rows d) (texts d) (walk_tree d) (coords d) (boxes d) (as_many d) (tree_below d)

root_is : (d : ℕ) (t : Tree d) → get_or (boxes d t) 0 no_box ≡ box_around (coords d t)
unfolding nest_boxes
root_is zero t = go t
  where
    go : (t : Node ⊥) → get_or (boxes zero t) 0 no_box ≡ box_around (coords zero t)
    go (point_n d cs) = refl
    go (line_n d cs) = refl
    go (polygon_n d ls) = refl
    go (multipoint_n d cs) = refl
    go (multiline_n d ls) = refl
    go (multipolygon_n d ps) = refl
    go (collection_n d ts) = refl
root_is (suc n) t = go t
  where
    go : (t : Node (Tree n)) → get_or (boxes (suc n) t) 0 no_box ≡ box_around (coords (suc n) t)
    go (point_n d cs) = refl
    go (line_n d cs) = refl
    go (polygon_n d ls) = refl
    go (multipoint_n d cs) = refl
    go (multiline_n d ls) = refl
    go (multipolygon_n d ps) = refl
    go (collection_n d ts) = refl

-- each node that the walk meets
pub in_parents : (d : ℕ) (t : Tree d) → All (InParent (λ i. get_or (boxes d t) i no_box)) (walk_tree d above 0 0 t)
unfolding Sits
in_parents d t = tree_below (boxes d t) d above 0 0 t (λ k h. let z : 0 + k ≡ k = omega arith in ap (λ n. get_or (boxes d t) n no_box) z) (subst (λ r. LiesIn (box_around (coords d t)) r) (sym (root_is d t)) (inside_self (box_around (coords d t))))

-- the same rows, told otherwise
pub in_rows : (at to : ℕ → BoxRow) → ((i : ℕ) → at i ≡ to i) → (ms : List Met) → All (InParent at) ms → All (InParent to) ms
unfolding All
in_rows at to same [] h = tt
in_rows at to same (met.Node v ∷ ms) h = (subst (λ r. LiesIn (to v.row) r) (same v.parent.row) (subst (λ r. LiesIn r (at v.parent.row)) (same v.row) h.0), in_rows at to same ms h.1)
in_rows at to same (met.End i n ∷ ms) h = (tt, in_rows at to same ms h.1)
in_rows at to same (met.Done ∷ ms) h = (tt, in_rows at to same ms h.1)
in_rows at to same (met.Ill ∷ ms) h = (tt, in_rows at to same ms h.1)
