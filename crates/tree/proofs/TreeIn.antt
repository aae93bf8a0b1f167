-- `find_tree` finds a tree in its own rows and number texts, whatever follows them, and finds nothing else.
-- Assumes nothing.
use mathlib.Core.Path.{◌≡◌, refl, ap, sym, ◌∙◌}
use mathlib.Core.Logic.{◌↔◌}
use mathlib.Core.Option.{some}
use mathlib.Core.List.{List, [], ◌∷◌, ◌++◌, flat_map, append_assoc, append-nil}
use Prim.Native.Nat.{ℕ, zero, suc}
use native.Mathlib.Omega.{arith}
use lib.Dec.{eqb, leb}
use lib.ListN.{length}
use borrow.Author.Tests.{eq-eqb, le-leb, eqb-true, leb-true}
use Rattle.kinds.specs.Kinds.{kind_point, kind_line_string, kind_polygon, kind_multi_point, kind_multi_line_string, kind_multi_polygon, kind_geometry_collection, dim_xyzm, width}
use Rattle.store.specs.Rows.{Row, row, Span, span}
use Rattle.lists.proofs.Cases.{either}
use Rattle.lists.specs.Lists.{All}
use Rattle.tree.specs.Tree.{Coord, Node, point_n, line_n, polygon_n, multipoint_n, multiline_n, multipolygon_n, collection_n, Tree, rows_with, no_rows, point_rows, line_rows, polygon_rows, node_rows, rows, coord_texts, line_texts, polygon_texts, node_texts, no_texts, texts, IsDimension, CoordShape, LineShape, PolygonShape, NodeShape, NoShape, Shape, Lexeme}
use Rattle.tree.specs.TreeIn.{SpanIn, span_texts, Front, ill, front, Finder, on_front, as_a, find_none, times, find_text, find_coord, find_row, find_line, find_polygon, exactly_one, find_point, at_most_one, find_parts, find_node, find_tree, whole, tree_in}

abbrev pub Texts : Type 0
Texts = List (List ℕ)

-- ---- a part is found in its own rows and texts
Finds : {X : Type 0} → (X → List Row) → (X → Texts) → (X → Type 0) → Finder X → Type 0
Finds {X} ro nu Q f = (x : X) → Q x → (rs : List Row) (ns : Texts) → f (ro x ++ rs) (nu x ++ ns) ≡ front x rs ns

text_times : (c : Coord) (rs : List Row) (ns : Texts) → times find_text (length c) rs (c ++ ns) ≡ front c rs ns
unfolding times find_text on_front as_a
text_times [] rs ns = refl
text_times (x ∷ c) rs ns = rw (text_times c rs ns)

coord_finds : (d : ℕ) → Finds no_rows coord_texts (CoordShape d) (find_coord d)
unfolding Finds
coord_finds d c e rs ns = rw (← e) (text_times c rs ns)

module _ {X : Type 0} (ro : X → List Row) (nu : X → Texts) (Q : X → Type 0) (f : Finder X) (h : Finds ro nu Q f) where
  times_finds : (xs : List X) → All Q xs → (rs : List Row) (ns : Texts) → times f (length xs) (flat_map ro xs ++ rs) (flat_map nu xs ++ ns) ≡ front xs rs ns
  unfolding times flat_map All on_front as_a Finds
  times_finds [] a rs ns = refl
  times_finds (x ∷ xs) a rs ns = rw (append_assoc (ro x), append_assoc (nu x), h x a.0, times_finds xs a.1 rs ns)

  parts_finds : (k d : ℕ) → Finds (rows_with k d ro) (flat_map nu) (All Q) (find_row k d (times f))
  unfolding Finds find_row rows_with
  parts_finds k d xs a rs ns = rw (eq-eqb k k refl, eq-eqb d d refl) (times_finds xs a rs ns)

line_finds : (d : ℕ) → Finds (line_rows d) line_texts (LineShape d) (find_line d)
line_finds d = parts_finds no_rows coord_texts (CoordShape d) (find_coord d) (coord_finds d) kind_line_string d

polygon_finds : (d : ℕ) → Finds (polygon_rows d) polygon_texts (PolygonShape d) (find_polygon d)
polygon_finds d = parts_finds (line_rows d) line_texts (LineShape d) (find_line d) (line_finds d) kind_polygon d

point_finds : (d : ℕ) → Finds (point_rows d) coord_texts (CoordShape d) (find_point d)
unfolding Finds find_row rows_with exactly_one flat_map
point_finds d c e rs ns = rw (eq-eqb d d refl) (coord_finds d c e rs ns)

-- the parts of a node, whatever it is made of
module _ {X : Type 0} (ro : X → List Row) (nu : X → Texts) (Q : X → Type 0) (f : Finder X) (h : Finds ro nu Q f) where
  node_finds : Finds (node_rows ro) (node_texts nu) (NodeShape Q) (find_node f)
  unfolding Finds find_node find_parts at_most_one rows_with as_a on_front
  node_finds (point_n d cs) g rs ns = rw (le-leb d dim_xyzm g.0, le-leb (length cs) 1 g.2, times_finds no_rows coord_texts (CoordShape d) (find_coord d) (coord_finds d) cs g.1 rs ns)
  node_finds (line_n d cs) g rs ns = rw (le-leb d dim_xyzm g.0, times_finds no_rows coord_texts (CoordShape d) (find_coord d) (coord_finds d) cs g.1 rs ns)
  node_finds (polygon_n d ls) g rs ns = rw (le-leb d dim_xyzm g.0, times_finds (line_rows d) line_texts (LineShape d) (find_line d) (line_finds d) ls g.1 rs ns)
  node_finds (multipoint_n d cs) g rs ns = rw (le-leb d dim_xyzm g.0, times_finds (point_rows d) coord_texts (CoordShape d) (find_point d) (point_finds d) cs g.1 rs ns)
  node_finds (multiline_n d ls) g rs ns = rw (le-leb d dim_xyzm g.0, times_finds (line_rows d) line_texts (LineShape d) (find_line d) (line_finds d) ls g.1 rs ns)
  node_finds (multipolygon_n d ps) g rs ns = rw (le-leb d dim_xyzm g.0, times_finds (polygon_rows d) polygon_texts (PolygonShape d) (find_polygon d) (polygon_finds d) ps g.1 rs ns)
  node_finds (collection_n d ts) g rs ns = rw (le-leb d dim_xyzm g.0, times_finds ro nu Q f h ts g.1 rs ns)

no_finds : Finds {X = ⊥} no_rows no_texts NoShape find_none
unfolding Finds
no_finds x q rs ns = absurd x

tree_finds : (d : ℕ) → Finds (rows d) (texts d) (Shape d) (find_tree d)
tree_finds zero = node_finds no_rows no_texts NoShape find_none no_finds
tree_finds (suc d) = node_finds (rows d) (texts d) (Shape d) (find_tree d) (tree_finds d)

-- a tree is what its rows and number texts are
pub tree_in_law : (d : ℕ) (t : Tree d) → Shape d t → tree_in d (rows d t) (texts d t) ≡ some t
unfolding Finds whole
tree_in_law d t g = rw (append-nil (rows d t), append-nil (texts d t)) at (ap whole (tree_finds d t g [] []))

-- ---- and nothing else is found
abbrev pub FoundAs : {X : Type 0} → (X → List Row → Texts → Type 0) → Front X → Type 0
FoundAs Q ill = Unit {0}
FoundAs Q (front x rs ns) = Q x rs ns

on_found : {X Y : Type 0} (Q : X → List Row → Texts → Type 0) (R : Y → List Row → Texts → Type 0) (p : Front X) (f : X → Finder Y)
    → FoundAs Q p → ((x : X) (rs : List Row) (ns : Texts) → Q x rs ns → FoundAs R (f x rs ns)) → FoundAs R (on_front p f)
unfolding on_front
on_found Q R ill f h k = tt
on_found Q R (front x rs ns) f h k = k x rs ns h

as_found : {X Y : Type 0} (Q : X → List Row → Texts → Type 0) (R : Y → List Row → Texts → Type 0) (c : X → Y) (p : Front X)
    → FoundAs Q p → ((x : X) (rs : List Row) (ns : Texts) → Q x rs ns → R (c x) rs ns) → FoundAs R (as_a c p)
unfolding as_a
as_found Q R c p h k = on_found Q R p _ h k

found_map : {X : Type 0} (Q R : X → List Row → Texts → Type 0) (p : Front X) → FoundAs Q p → ((x : X) (rs : List Row) (ns : Texts) → Q x rs ns → R x rs ns) → FoundAs R p
found_map Q R ill h k = tt
found_map Q R (front x rs ns) h k = k x rs ns h

-- the rows and the number texts that stood in front are those of x
abbrev pub Is : {X : Type 0} → (X → List Row) → (X → Texts) → (X → Type 0) → List Row → Texts → X → List Row → Texts → Type 0
Is ro nu Q rs ns x rs1 ns1 = (rs ≡ ro x ++ rs1) × (ns ≡ nu x ++ ns1) × Q x

abbrev pub Sound : {X : Type 0} → (X → List Row) → (X → Texts) → (X → Type 0) → Finder X → Type 0
Sound ro nu Q f = (rs : List Row) (ns : Texts) → FoundAs (Is ro nu Q rs ns) (f rs ns)

abbrev pub ExactlyAll : {X : Type 0} → (X → Type 0) → ℕ → List X → Type 0
ExactlyAll Q n xs = All Q xs × (length xs ≡ n)

text_sound : (n : ℕ) → Sound no_rows coord_texts (λ c. length c ≡ n) (times find_text n)
unfolding times find_text on_front
text_sound zero rs ns = (refl, refl, refl)
text_sound (suc n) rs [] = tt
text_sound (suc n) rs (x ∷ ns) =
    as_found (Is no_rows coord_texts (λ c. length c ≡ n) rs ns) _ _ (times find_text n rs ns) (text_sound n rs ns)
    λ c rs1 ns1 h. (h.0, ap (λ (l : Texts). x ∷ l) h.1, ap suc h.2)

pub coord_sound : (d : ℕ) → Sound no_rows coord_texts (CoordShape d) (find_coord d)
coord_sound d = text_sound (width d)

module _ {X : Type 0} (ro : X → List Row) (nu : X → Texts) (Q : X → Type 0) (f : Finder X) (s : Sound ro nu Q f) where
  pub times_sound : (n : ℕ) → Sound (flat_map ro) (flat_map nu) (ExactlyAll Q n) (times f n)
  unfolding times flat_map All
  times_sound zero rs ns = (refl, refl, (tt, refl))
  times_sound (suc n) rs ns =
      on_found (Is ro nu Q rs ns) _ (f rs ns) _ (s rs ns)
      λ x rs1 ns1 h. as_found (Is (flat_map ro) (flat_map nu) (ExactlyAll Q n) rs1 ns1) _ _ (times f n rs1 ns1) (times_sound n rs1 ns1)
      λ xs rs2 ns2 k. (rw (h.0, k.0, append_assoc), rw (h.1, k.1, append_assoc), ((h.2, k.2.0), ap suc k.2.1))

  -- under a row that says how many
  parts_sound : (k d n : ℕ) (rs : List Row) (ns : Texts) → FoundAs (Is (rows_with k d ro) (flat_map nu) (ExactlyAll Q n) (row k d n ∷ rs) ns) (times f n rs ns)
  unfolding rows_with
  parts_sound k d n rs ns = found_map (Is (flat_map ro) (flat_map nu) (ExactlyAll Q n) rs ns) _ (times f n rs ns) (times_sound n rs ns) λ xs rs1 ns1 h. (rw (h.0, h.2.1), h.1, h.2)

  as_sound : {Y : Type 0} (k d : ℕ) (c : List X → Y) (ro' : Y → List Row) (nu' : Y → Texts) (Q' : Y → Type 0) → ((xs : List X) → rows_with k d ro xs ≡ ro' (c xs)) → ((xs : List X) → flat_map nu xs ≡ nu' (c xs))
      → (n : ℕ) → ((xs : List X) → ExactlyAll Q n xs → Q' (c xs)) → (rs : List Row) (ns : Texts) → FoundAs (Is ro' nu' Q' (row k d n ∷ rs) ns) (as_a c (times f n rs ns))
  as_sound k d c ro' nu' Q' er en n q rs ns =
      as_found (Is (rows_with k d ro) (flat_map nu) (ExactlyAll Q n) (row k d n ∷ rs) ns) _ c (times f n rs ns) (parts_sound k d n rs ns)
      λ xs rs1 ns1 h. (rw (← er xs) h.0, rw (← en xs) h.1, q xs h.2)

row_sound : {X : Type 0} (k d : ℕ) (ro : X → List Row) (nu : X → Texts) (Q : X → Type 0) (f : ℕ → Finder X)
    → ((n : ℕ) (rs : List Row) (ns : Texts) → FoundAs (Is ro nu Q (row k d n ∷ rs) ns) (f n rs ns)) → Sound ro nu Q (find_row k d f)
unfolding find_row
row_sound k d ro nu Q f s [] ns = tt
row_sound k d ro nu Q f s (r ∷ rs) ns =
    either (eqb r.kind k) (FoundAs (Is ro nu Q (r ∷ rs) ns)) _ _
    (λ a. either (eqb r.dimension d) (FoundAs (Is ro nu Q (r ∷ rs) ns)) _ _ (λ b. rw (eqb-true r.kind k a, eqb-true r.dimension d b) (s r.parts rs ns)) λ b. tt) λ a. tt

list_sound : {X : Type 0} (k d : ℕ) (ro : X → List Row) (nu : X → Texts) (Q : X → Type 0) (f : Finder X) → Sound ro nu Q f → Sound (rows_with k d ro) (flat_map nu) (All Q) (find_row k d (times f))
list_sound k d ro nu Q f s =
    row_sound k d (rows_with k d ro) (flat_map nu) (All Q) (times f)
    λ n rs ns. found_map (Is (rows_with k d ro) (flat_map nu) (ExactlyAll Q n) (row k d n ∷ rs) ns) _ (times f n rs ns) (parts_sound ro nu Q f s k d n rs ns) λ xs rs1 ns1 h. (h.0, h.1, h.2.0)

pub line_sound : (d : ℕ) → Sound (line_rows d) line_texts (LineShape d) (find_line d)
line_sound d = list_sound kind_line_string d no_rows coord_texts (CoordShape d) (find_coord d) (coord_sound d)

pub polygon_sound : (d : ℕ) → Sound (polygon_rows d) polygon_texts (PolygonShape d) (find_polygon d)
polygon_sound d = list_sound kind_polygon d (line_rows d) line_texts (LineShape d) (find_line d) (line_sound d)

one_sound : (d n : ℕ) (rs : List Row) (ns : Texts) → FoundAs (Is (point_rows d) coord_texts (CoordShape d) (row kind_point d n ∷ rs) ns) (exactly_one d n rs ns)
unfolding exactly_one rows_with flat_map
one_sound d n rs ns =
    either (eqb n 1) (FoundAs (Is (point_rows d) coord_texts (CoordShape d) (row kind_point d n ∷ rs) ns)) _ _
    (λ e. found_map (Is no_rows coord_texts (CoordShape d) rs ns) _ (find_coord d rs ns) (coord_sound d rs ns) λ c rs1 ns1 h. (rw (eqb-true n 1 e, h.0), h.1, h.2)) λ e. tt

pub point_sound : (d : ℕ) → Sound (point_rows d) coord_texts (CoordShape d) (find_point d)
point_sound d = row_sound kind_point d (point_rows d) coord_texts (CoordShape d) (exactly_one d) (one_sound d)

module _ {X : Type 0} (ro : X → List Row) (nu : X → Texts) (Q : X → Type 0) (f : Finder X) (s : Sound ro nu Q f) where
  abbrev At : ℕ → ℕ → ℕ → List Row → Texts → Front (Node X) → Type 0
  At k d n rs ns = FoundAs (Is (node_rows ro) (node_texts nu) (NodeShape Q) (row k d n ∷ rs) ns)

  kind_sound : (k d n : ℕ) (rs : List Row) (ns : Texts) → IsDimension d → At k d n rs ns (find_parts f k d n rs ns)
  unfolding find_parts at_most_one
  kind_sound k d n rs ns g =
      let A : Front (Node X) → Type 0 = At k d n rs ns in
      either (eqb k kind_point) A _ _ (λ e. rw (eqb-true k kind_point e) (either (leb n 1) (At kind_point d n rs ns) _ _
      (λ l. as_sound no_rows coord_texts (CoordShape d) (find_coord d) (coord_sound d) kind_point d (point_n d) (node_rows ro) (node_texts nu) (NodeShape Q) (λ xs. refl) (λ xs. refl) n (λ xs a. (g, a.0, omega (arith, a.1, leb-true n 1 l))) rs ns) λ l. tt)) λ e.
      either (eqb k kind_line_string) A _ _ (λ e. rw (eqb-true k kind_line_string e)
      (as_sound no_rows coord_texts (CoordShape d) (find_coord d) (coord_sound d) kind_line_string d (line_n d) (node_rows ro) (node_texts nu) (NodeShape Q) (λ xs. refl) (λ xs. refl) n (λ xs a. (g, a.0)) rs ns)) λ e.
      either (eqb k kind_polygon) A _ _ (λ e. rw (eqb-true k kind_polygon e)
      (as_sound (line_rows d) line_texts (LineShape d) (find_line d) (line_sound d) kind_polygon d (polygon_n d) (node_rows ro) (node_texts nu) (NodeShape Q) (λ xs. refl) (λ xs. refl) n (λ xs a. (g, a.0)) rs ns)) λ e.
      either (eqb k kind_multi_point) A _ _ (λ e. rw (eqb-true k kind_multi_point e)
      (as_sound (point_rows d) coord_texts (CoordShape d) (find_point d) (point_sound d) kind_multi_point d (multipoint_n d) (node_rows ro) (node_texts nu) (NodeShape Q) (λ xs. refl) (λ xs. refl) n (λ xs a. (g, a.0)) rs ns)) λ e.
      either (eqb k kind_multi_line_string) A _ _ (λ e. rw (eqb-true k kind_multi_line_string e)
      (as_sound (line_rows d) line_texts (LineShape d) (find_line d) (line_sound d) kind_multi_line_string d (multiline_n d) (node_rows ro) (node_texts nu) (NodeShape Q) (λ xs. refl) (λ xs. refl) n (λ xs a. (g, a.0)) rs ns)) λ e.
      either (eqb k kind_multi_polygon) A _ _ (λ e. rw (eqb-true k kind_multi_polygon e)
      (as_sound (polygon_rows d) polygon_texts (PolygonShape d) (find_polygon d) (polygon_sound d) kind_multi_polygon d (multipolygon_n d) (node_rows ro) (node_texts nu) (NodeShape Q) (λ xs. refl) (λ xs. refl) n (λ xs a. (g, a.0)) rs ns)) λ e.
      either (eqb k kind_geometry_collection) A _ _ (λ e. rw (eqb-true k kind_geometry_collection e)
      (as_sound ro nu Q f s kind_geometry_collection d (collection_n d) (node_rows ro) (node_texts nu) (NodeShape Q) (λ xs. refl) (λ xs. refl) n (λ xs a. (g, a.0)) rs ns)) λ e. tt

  node_sound : Sound (node_rows ro) (node_texts nu) (NodeShape Q) (find_node f)
  unfolding find_node
  node_sound [] ns = tt
  node_sound (r ∷ rs) ns = either (leb r.dimension dim_xyzm) (At r.kind r.dimension r.parts rs ns) _ _ (λ e. kind_sound r.kind r.dimension r.parts rs ns (leb-true r.dimension dim_xyzm e)) λ e. tt

no_sound : Sound {X = ⊥} no_rows no_texts NoShape find_none
no_sound rs ns = tt

pub tree_sound : (d : ℕ) → Sound (rows d) (texts d) (Shape d) (find_tree d)
tree_sound zero = node_sound no_rows no_texts NoShape find_none no_sound
tree_sound (suc d) = node_sound (rows d) (texts d) (Shape d) (find_tree d) (tree_sound d)

-- rows and number texts that are a tree are that tree's
pub record TreesOwn (d : ℕ) (rs : List Row) (ns : List (List ℕ)) (t : Tree d) : Type 0 where
  pub its_rows : rs ≡ rows d t
  pub its_texts : ns ≡ texts d t
  pub shape : Shape d t

pub trees_own : (d : ℕ) (rs : List Row) (ns : List (List ℕ)) (t : Tree d) → tree_in d rs ns ≡ some t → TreesOwn d rs ns t
unfolding whole
trees_own d rs ns t e = go (find_tree d rs ns) (tree_sound d rs ns) e
  where
    go : (p : Front (Tree d)) → FoundAs (Is (rows d) (texts d) (Shape d) rs ns) p → whole p ≡ some t → TreesOwn d rs ns t
    go ill h e = let z : ◌≡◌ {A = ℕ} 0 1 = cc in absurd (omega arith)
    go (front t' [] []) h e = let z : t' ≡ t = cc in let u : TreesOwn d rs ns t' = record { its_rows = h.0 ∙ append-nil (rows d t'); its_texts = h.1 ∙ append-nil (texts d t'); shape = h.2 } in rw z at u
    go (front t' [] (x ∷ ns')) h e = let z : ◌≡◌ {A = ℕ} 0 1 = cc in absurd (omega arith)
    go (front t' (r ∷ rs') ns') h e = let z : ◌≡◌ {A = ℕ} 0 1 = cc in absurd (omega arith)

-- two trees are one exactly when they have the same rows and the same number texts
pub same_tree : (d : ℕ) (t t' : Tree d) → Shape d t → Shape d t' → (t ≡ t') ↔ ((rows d t ≡ rows d t') × (texts d t ≡ texts d t'))
same_tree d t t' g g' = ((λ e. (ap (rows d) e, ap (texts d) e)), λ e. one (sym (tree_in_law d t g) ∙ ap (λ l. tree_in d l (texts d t)) e.0 ∙ ap (tree_in d (rows d t')) e.1 ∙ tree_in_law d t' g'))
  where
    one : some t ≡ some t' → t ≡ t'
    one e = cc

-- the texts of number rows that lie in a text are lexemes
pub span_lexemes : (text : List ℕ) (ss : List Span) → All (SpanIn text) ss → All Lexeme (span_texts ss)
unfolding All
span_lexemes text [] a = tt
span_lexemes text (span start len x ∷ ss) a = (a.0.lexeme, span_lexemes text ss a.1)
