-- What the writer puts, thing by thing as a walk meets them, is the canonical text of the tree that is walked through.
-- Assumes nothing.
use mathlib.Core.Path.{◌≡◌, refl, ap, sym, ◌∙◌}
use mathlib.Core.Bool.{Bool, true, false, cond}
use mathlib.Core.Option.{Option, none, some}
use mathlib.Core.List.{List, [], ◌∷◌, ◌++◌, flat_map, map, append-nil}
use Prim.Native.Nat.{ℕ, zero, suc, ◌+◌, ◌-◌, ◌≤◌}
use native.Mathlib.Omega.{arith}
use lib.Dec.{eqb, leb}
use lib.ListN.{length, length-map}
use borrow.Author.Tests.{ne_eqb}
use Rattle.limits.specs.Limits.{depth_limit}
use Rattle.scan.specs.Bytes.{space, paren_close, comma}
use Rattle.kinds.specs.Kinds.{kind_point, kind_line_string, kind_polygon, kind_multi_point, kind_multi_line_string, kind_multi_polygon, kind_geometry_collection, width}
use Rattle.kinds.proofs.Widths.{width_some}
use Rattle.store.specs.Rows.{Row, span_at, number_room, firsts, spans_in}
use Rattle.store.proofs.Rows.{spans_length}
use Rattle.lists.specs.Lists.{All}
use Rattle.tree.specs.Tree.{Coord, point_n, line_n, polygon_n, multipoint_n, multiline_n, multipolygon_n, collection_n, Tree, row_over, no_rows, point_rows, line_rows, polygon_rows, rows, coord_texts, line_texts, polygon_texts, node_texts, no_texts, texts, CoordShape, LineShape, PolygonShape, NodeShape, NoShape, Shape}
use Rattle.tree.specs.TreeIn.{span_text, span_texts}
use Rattle.canonical_text.specs.Canonical as tree
use Rattle.canonical_text.specs.Canonical.{each, separated, put_coord, put_parts, put_named, put_with, put_point, put_line, put_polygon, put_nothing, put_tree, canonical_text}
use Rattle.lists.specs.Options.{map_o}
use Rattle.nodes.specs.declared.Frame.{Frame}
use Rattle.nodes.specs.declared.Visit.{Visit}
use Rattle.nodes.specs.declared.Met.{Met}
use Rattle.nodes.specs.Nodes.{above, visit_of, is_free, frame_of, onward}
use Rattle.shape.specs.Visits.{Walker, walk_each, walk_leaf, walk_parts, walk_nest, walk_point, walk_line, walk_polygon, walk_node, walk_nothing, walk_tree}
use Rattle.shape.specs.Numbers.{text_at}
use Rattle.shape.specs.Store.{tree_of, well_formed, walk_root, walk_of}
use Rattle.shape.proofs.Stores.{grown, store_tree}
use Rattle.pieces.specs.Canonical.{put_number, put_name, put_comma, put_head}
use Rattle.to_wkt.specs.Canonical.{store_text, written_text, put_spaced, put_coordinate, put_listed, put_coordinates, put_body, put_node, put_met, put_all}

module _ (text numbers : List ℕ) where
  pub put_both : (a b : List Met) (r : List ℕ) → put_all text numbers (a ++ b) r ≡ put_all text numbers a (put_all text numbers b r)
  unfolding put_all
  put_both [] b r = refl
  put_both (m ∷ a) b r = ap (put_met text numbers m) (put_both a b r)

  -- ---- the texts of the number rows from j on
  Stand : ℕ → List (List ℕ) → Type 0
  Stand j [] = Unit {0}
  Stand j (x ∷ xs) = (text_at text numbers j ≡ x) × Stand (j + 1) xs

  stand_left : (a b : List (List ℕ)) (j : ℕ) → Stand j (a ++ b) → Stand j a
  unfolding Stand
  stand_left [] b j h = tt
  stand_left (x ∷ a) b j h = (h.0, stand_left a b (j + 1) h.1)

  stand_right : (a b : List (List ℕ)) (j : ℕ) → Stand j (a ++ b) → Stand (j + length a) b
  unfolding Stand
  stand_right [] b j h = let z : j + 0 ≡ j = omega arith in rw z h
  stand_right (x ∷ a) b j h = let z : j + suc (length a) ≡ j + 1 + length a = omega arith in rw z (stand_right a b (j + 1) h.1)

  stand_snoc : (l : List (List ℕ)) (x : List ℕ) (j : ℕ) → Stand j l → text_at text numbers (j + length l) ≡ x → Stand j (l ++ (x ∷ []))
  unfolding Stand
  stand_snoc [] x j h e = let z : j + 0 ≡ j = omega arith in (rw z at e, tt)
  stand_snoc (y ∷ l) x j h e = let z : j + suc (length l) ≡ j + 1 + length l = omega arith in (h.0, stand_snoc l x (j + 1) h.1 (rw z at e))

  -- ---- coordinates
  spaced_is : (c : Coord) (i : ℕ) (r : List ℕ) → Stand i c → put_spaced text numbers i (length c) r ≡ each space tree.put_spelled c r
  unfolding each put_spaced put_number Stand
  spaced_is [] i r h = refl
  spaced_is (x ∷ c) i r h = rw (h.0, spaced_is c (i + 1) r h.1)

  coordinate_is : (w : ℕ) (c : Coord) (i : ℕ) (r : List ℕ) → length c ≡ w → 1 ≤ w → Stand i c → put_coordinate text numbers i w r ≡ put_coord c r
  unfolding separated put_coordinate put_number Stand
  coordinate_is w [] i r e l h = absurd (omega arith)
  coordinate_is w (x ∷ c) i r e l h = let z : w - 1 ≡ length c = omega arith in rw (h.0, z, spaced_is c (i + 1) r h.1)

  listed_is : (w : ℕ) (cs : List Coord) (i : ℕ) (r : List ℕ) → All (λ c. length c ≡ w) cs → 1 ≤ w → Stand i (flat_map coord_texts cs) → put_listed text numbers i w (length cs) r ≡ each comma put_coord cs r
  unfolding each put_listed flat_map All
  listed_is w [] i r a l h = refl
  listed_is w (c ∷ cs) i r a l h =
      let e : length c ≡ w = a.0 in
      let t : Stand (i + w) (flat_map coord_texts cs) = rw e at (stand_right c (flat_map coord_texts cs) i h) in
      rw (listed_is w cs (i + w) r a.1 l t, coordinate_is w c i (each comma put_coord cs r) e l (stand_left c (flat_map coord_texts cs) i h))

  coordinates_are : (w : ℕ) (c : Coord) (cs : List Coord) (i : ℕ) (r : List ℕ) → All (λ c. length c ≡ w) (c ∷ cs) → 1 ≤ w → Stand i (flat_map coord_texts (c ∷ cs)) → put_coordinates text numbers i w (suc (length cs)) r ≡ separated comma put_coord (c ∷ cs) r
  unfolding separated put_coordinates flat_map All
  coordinates_are w c cs i r a l h =
      let z : suc (length cs) - 1 ≡ length cs = omega arith in
      let e : length c ≡ w = a.0 in
      let t : Stand (i + w) (flat_map coord_texts cs) = rw e at (stand_right c (flat_map coord_texts cs) i h) in
      rw (z, listed_is w cs (i + w) r a.1 l t, coordinate_is w c i (each comma put_coord cs r) e l (stand_left c (flat_map coord_texts cs) i h))

  -- ---- a node in its place
  -- the comma before every child but the first
  abbrev comma_of : Frame → List ℕ → List ℕ
  comma_of f r = cond (eqb f.next 0) r (comma ∷ r)

  -- what is put of a part is its own bytes, with a comma before it if it isn't the first; b says if its parent leaves it its name
  Puts : {X : Type 0} → Bool → (X → List (List ℕ)) → Walker X → (X → List ℕ → List ℕ) → (X → Type 0) → Type 0
  Puts {X} b nu w p Q = (f : Frame) (i j : ℕ) (x : X) (r : List ℕ) → is_free f.kind ≡ b → Q x → Stand j (nu x) → put_all text numbers (w f i j x) r ≡ comma_of f (p x r)

  leaf_puts : (k d : ℕ) → leb k kind_line_string ≡ true → (f : Frame) (i j : ℕ) (cs : List Coord) (r : List ℕ) → All (CoordShape d) cs → Stand j (flat_map coord_texts cs) →
      put_all text numbers (walk_leaf k d f i j cs) r ≡ comma_of f (put_head (visit_of i j f (row_over k d no_rows cs)) (put_parts put_coord cs r))
  unfolding put_all put_met put_node put_comma put_body put_parts
  leaf_puts k d e f i j [] r a h = refl
  leaf_puts k d e f i j (c ∷ cs) r a h = rw (ne_eqb (suc (length cs)) 0 (λ z. omega arith), e, coordinates_are (width d) c cs j (paren_close ∷ r) a (omega (arith, width_some d)) h)

  -- ---- children, whatever they are
  module _ {X : Type 0} (b : Bool) (ro : X → List Row) (nu : X → List (List ℕ)) (w : Walker X) (p : X → List ℕ → List ℕ) (Q : X → Type 0) (S : Puts b nu w p Q) where
    each_puts : (f : Frame) (i j : ℕ) (xs : List X) (r : List ℕ) → is_free f.kind ≡ b → eqb f.next 0 ≡ false → All Q xs → Stand j (flat_map nu xs) → put_all text numbers (walk_each ro nu w f i j xs) r ≡ each comma p xs r
    unfolding walk_each each flat_map All put_all Puts
    each_puts f i j [] r fr n a h = refl
    each_puts f i j (x ∷ xs) r fr n a h =
        let t = each_puts (onward f) (i + length (ro x)) (j + length (nu x)) xs r fr (ne_eqb (f.next + 1) 0 (λ z. omega arith)) a.1 (stand_right (nu x) (flat_map nu xs) j h) in
        let s = S f i j x (each comma p xs r) fr a.0 (stand_left (nu x) (flat_map nu xs) j h) in
        put_both (w f i j x) (walk_each ro nu w (onward f) (i + length (ro x)) (j + length (nu x)) xs) r ∙ ap (put_all text numbers (w f i j x)) t ∙ s ∙ rw n

    kids_put : (f : Frame) (i j : ℕ) (x : X) (xs : List X) (r : List ℕ) → is_free f.kind ≡ b → f.next ≡ 0 → All Q (x ∷ xs) → Stand j (flat_map nu (x ∷ xs)) → put_all text numbers (walk_each ro nu w f i j (x ∷ xs)) r ≡ separated comma p (x ∷ xs) r
    unfolding walk_each separated flat_map All put_all Puts
    kids_put f i j x xs r fr n a h =
        let t = each_puts (onward f) (i + length (ro x)) (j + length (nu x)) xs r fr (ne_eqb (f.next + 1) 0 (λ z. omega arith)) a.1 (stand_right (nu x) (flat_map nu xs) j h) in
        let s = S f i j x (each comma p xs r) fr a.0 (stand_left (nu x) (flat_map nu xs) j h) in
        put_both (w f i j x) (walk_each ro nu w (onward f) (i + length (ro x)) (j + length (nu x)) xs) r ∙ ap (put_all text numbers (w f i j x)) t ∙ s ∙ rw n

    -- their node
    nest_puts : (k d : ℕ) → leb k kind_line_string ≡ false → is_free k ≡ b → (f : Frame) (i j : ℕ) (xs : List X) (r : List ℕ) → All Q xs → Stand j (flat_map nu xs) →
        put_all text numbers (walk_nest ro nu w k d f i j xs) r ≡ comma_of f (put_head (visit_of i j f (row_over k d ro xs)) (put_parts p xs r))
    unfolding put_all put_met put_node put_comma put_body put_parts walk_parts
    nest_puts k d e fr f i j [] r a h = refl
    nest_puts k d e fr f i j (x ∷ xs) r a h =
        let v : Visit = visit_of i j f (row_over k d ro (x ∷ xs)) in
        let t = kids_put (frame_of v) (i + 1) j x xs (paren_close ∷ r) fr refl a h in
        rw (ne_eqb (suc (length xs)) 0 (λ z. omega arith), e, put_both (walk_each ro nu w (frame_of v) (i + 1) j (x ∷ xs)) _ r, t)

  -- ---- names: "A child of a node of kinds 3 to 6 has no name"
  no_head : (i j : ℕ) (f : Frame) (q : Row) (r : List ℕ) → is_free f.kind ≡ false → put_head (visit_of i j f q) r ≡ r
  unfolding put_head
  no_head i j f q r e = rw e

  -- "Upper-case name; space and `Z`, `M` or `ZM` if any; then ` EMPTY`, or the parts"
  head_is : {X : Type 0} (p : X → List ℕ → List ℕ) (ro : X → List Row) (i j : ℕ) (f : Frame) (k d : ℕ) (xs : List X) (r : List ℕ) → is_free f.kind ≡ true → put_head (visit_of i j f (row_over k d ro xs)) (put_parts p xs r) ≡ put_with k d p xs r
  unfolding put_head put_name put_with put_parts put_named
  head_is p ro i j f k d [] r e = rw e
  head_is p ro i j f k d (x ∷ xs) r e = rw (e, ne_eqb (suc (length xs)) 0 (λ z. omega arith))

  -- ---- below kinds 3 to 6
  line_puts : (d : ℕ) → Puts false line_texts (walk_line d) put_line (LineShape d)
  unfolding Puts
  line_puts d f i j cs r fr q h = leaf_puts kind_line_string d refl f i j cs r q h ∙ ap (comma_of f) (no_head i j f (row_over kind_line_string d no_rows cs) (put_parts put_coord cs r) fr)

  point_puts : (d : ℕ) → Puts false coord_texts (walk_point d) put_point (CoordShape d)
  unfolding Puts flat_map All
  point_puts d f i j c r fr q h =
      leaf_puts kind_point d refl f i j (c ∷ []) r (q, tt) (rw append-nil h) ∙ ap (comma_of f) (no_head i j f (row_over kind_point d no_rows (c ∷ [])) (put_parts put_coord (c ∷ []) r) fr)

  polygon_puts : (d : ℕ) → Puts false polygon_texts (walk_polygon d) put_polygon (PolygonShape d)
  unfolding Puts
  polygon_puts d f i j ls r fr q h =
      nest_puts false (line_rows d) line_texts (walk_line d) put_line (LineShape d) (line_puts d) kind_polygon d refl refl f i j ls r q h
      ∙ ap (comma_of f) (no_head i j f (row_over kind_polygon d (line_rows d) ls) (put_parts put_line ls r) fr)

  -- ---- at the root and in a collection
  module _ {X : Type 0} (ro : X → List Row) (nu : X → List (List ℕ)) (w : Walker X) (p : X → List ℕ → List ℕ) (Q : X → Type 0) (S : Puts true nu w p Q) where
    node_puts : Puts true (node_texts nu) (walk_node ro nu w) (tree.put_geometry p) (NodeShape Q)
    unfolding Puts
    node_puts f i j (point_n d cs) r fr q h = leaf_puts kind_point d refl f i j cs r q.1 h ∙ ap (comma_of f) (head_is put_coord no_rows i j f kind_point d cs r fr)
    node_puts f i j (line_n d cs) r fr q h = leaf_puts kind_line_string d refl f i j cs r q.1 h ∙ ap (comma_of f) (head_is put_coord no_rows i j f kind_line_string d cs r fr)
    node_puts f i j (polygon_n d ls) r fr q h =
        nest_puts false (line_rows d) line_texts (walk_line d) put_line (LineShape d) (line_puts d) kind_polygon d refl refl f i j ls r q.1 h ∙ ap (comma_of f) (head_is put_line (line_rows d) i j f kind_polygon d ls r fr)
    node_puts f i j (multipoint_n d cs) r fr q h =
        nest_puts false (point_rows d) coord_texts (walk_point d) put_point (CoordShape d) (point_puts d) kind_multi_point d refl refl f i j cs r q.1 h ∙ ap (comma_of f) (head_is put_point (point_rows d) i j f kind_multi_point d cs r fr)
    node_puts f i j (multiline_n d ls) r fr q h =
        nest_puts false (line_rows d) line_texts (walk_line d) put_line (LineShape d) (line_puts d) kind_multi_line_string d refl refl f i j ls r q.1 h ∙ ap (comma_of f) (head_is put_line (line_rows d) i j f kind_multi_line_string d ls r fr)
    node_puts f i j (multipolygon_n d ps) r fr q h =
        nest_puts false (polygon_rows d) polygon_texts (walk_polygon d) put_polygon (PolygonShape d) (polygon_puts d) kind_multi_polygon d refl refl f i j ps r q.1 h ∙ ap (comma_of f) (head_is put_polygon (polygon_rows d) i j f kind_multi_polygon d ps r fr)
    node_puts f i j (collection_n d ts) r fr q h = nest_puts true ro nu w p Q S kind_geometry_collection d refl refl f i j ts r q.1 h ∙ ap (comma_of f) (head_is p ro i j f kind_geometry_collection d ts r fr)

  no_puts : Puts {X = ⊥} true no_texts walk_nothing put_nothing NoShape
  unfolding Puts
  no_puts f i j x r fr q h = absurd x

  tree_puts : (d : ℕ) → Puts true (texts d) (walk_tree d) (put_tree d) (Shape d)
  tree_puts zero = node_puts no_rows no_texts walk_nothing put_nothing NoShape no_puts
  tree_puts (suc d) = node_puts (rows d) (texts d) (walk_tree d) (put_tree d) (Shape d) (tree_puts d)

  -- ---- whole stores
  map_snoc : {X Y : Type 0} (g : X → Y) (l : List X) (a : X) → map g (l ++ (a ∷ [])) ≡ map g l ++ (g a ∷ [])
  map_snoc g [] a = refl
  map_snoc g (x ∷ l) a = ap (λ r. g x ∷ r) (map_snoc g l a)

  stand_all : (n : ℕ) → Stand 0 (span_texts (spans_in text numbers n))
  unfolding Stand spans_in firsts text_at
  stand_all zero = tt
  stand_all (suc n) =
      let l : length (span_texts (spans_in text numbers n)) ≡ n = length-map (spans_in text numbers n) span_text ∙ spans_length text numbers n in
      let z : 0 + length (span_texts (spans_in text numbers n)) ≡ n = omega arith in
      rw (map_snoc span_text (firsts (span_at text numbers) n) (span_at text numbers n)) (stand_snoc (span_texts (spans_in text numbers n)) (text_at text numbers n) 0 (stand_all n) (ap (text_at text numbers) z))

  module _ (nodes : List ℕ) where
    -- what is put of all that is met in a store's tree is that tree's canonical text
    pub put_is_tree : (t : Tree depth_limit) → tree_of text nodes numbers ≡ some t → put_all text numbers (walk_root t) [] ≡ canonical_text t
    unfolding Puts
    put_is_tree t e =
        let s = store_tree text nodes numbers t e in
        let h : Stand 0 (texts depth_limit t) = rw s.its_texts at (stand_all (number_room numbers)) in
        tree_puts depth_limit above 0 0 t [] refl s.good.shape h

    -- the canonical text of a store, where the walk through it meets ms
    pub put_is_text : (ms : List Met) → walk_of text nodes numbers ≡ some ms → store_text text nodes numbers ≡ some (put_all text numbers ms [])
    unfolding walk_of store_text
    put_is_text ms e = go (tree_of text nodes numbers) refl e
      where
        go : (o : Option (Tree depth_limit)) → tree_of text nodes numbers ≡ o → map_o walk_root o ≡ some ms → map_o canonical_text o ≡ some (put_all text numbers ms [])
        go none e h = let z : ◌≡◌ {A = ℕ} 0 1 = cc in absurd (omega arith)
        go (some t) e h = let z : walk_root t ≡ ms = cc in ap some (sym (put_is_tree t e) ∙ ap (λ l. put_all text numbers l []) z)

    -- a well-formed store has a canonical text
    pub has_text : well_formed text nodes numbers ≡ true → store_text text nodes numbers ≡ some (written_text text nodes numbers)
    unfolding written_text store_text
    has_text w = rw (grown text nodes numbers w).is
