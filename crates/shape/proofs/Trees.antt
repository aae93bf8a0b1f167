-- The rows that a walk gets through are a tree's, and what it meets is what the tree's walk meets, in preorder: for each finder of crate tree,
-- below any open nodes. The walk counts the number texts, and never looks at them.
-- Assumes nothing.
use mathlib.Core.Path.{◌≡◌, refl, ap, sym, ◌∙◌}
use mathlib.Core.Bool.{Bool, true, false, cond, not, ◌&&◌, ◌||◌}
use mathlib.Core.Option.{Option, none}
use mathlib.Core.List.{List, [], ◌∷◌, ◌++◌, flat_map, append-nil}
use Prim.Native.Nat.{ℕ, zero, suc, ◌+◌, ◌-◌, ◌*◌, ◌≤◌, ◌<◌}
use native.Mathlib.Omega.{arith}
use native.Mathlib.Nat.{suc-mul}
use lib.Dec.{eqb, leb}
use lib.ListN.{length, length-append}
use borrow.Author.Tests.{eq-eqb, ne_eqb, eqb-true, le-leb, lt-leb, lt-ltb}
use Rattle.limits.specs.Limits.{depth_limit}
use Rattle.kinds.specs.Kinds.{kind_point, kind_line_string, kind_polygon, kind_multi_point, kind_multi_polygon, kind_geometry_collection, dim_xyzm, width}
use Rattle.store.specs.Rows.{Row, row}
use Rattle.lists.specs.Lists.{All}
use Rattle.tree.specs.Tree.{Coord, Node, point_n, line_n, polygon_n, multipoint_n, multiline_n, multipolygon_n, collection_n, Tree, rows_with, no_rows, point_rows, line_rows, polygon_rows, node_rows, rows, coord_texts, line_texts, polygon_texts, node_texts, no_texts, texts, CoordShape, LineShape, PolygonShape, Shape}
use Rattle.tree.specs.TreeIn.{Front, ill, front, Finder, on_front, as_a, find_none, times, find_text, find_coord, find_row, find_line, find_polygon, exactly_one, find_point, at_most_one, find_parts, find_node, find_tree, whole, tree_in}
use Rattle.tree.proofs.TreeIn.{FoundAs, Is, Sound, ExactlyAll, coord_sound, times_sound, line_sound, polygon_sound, point_sound, tree_sound}
use Rattle.lists.specs.Options.{map_o}
use Rattle.nodes.specs.declared.Frame.{Frame}
use Rattle.nodes.specs.declared.Met.{Met}
use Rattle.nodes.specs.declared.Met.TheVariants as met
use Rattle.nodes.specs.Nodes.{no_kind, frame, above, visit_of, numbers_of, is_leaf, is_free, child_kind, is_allowed, may_open, frame_of, onward, node_end, node_ends, still_open, follow, at_last, meets_node, meets_rows, meets}
use Rattle.nodes.proofs.Meets.{follow_none, follow_both, meets_open, meets_spent}
use Rattle.shape.specs.Visits.{Walker, walk_each, walk_leaf, walk_parts, walk_nest, walk_point, walk_line, walk_polygon, walk_node, walk_nothing, walk_tree}
use Rattle.shape.specs.Store.{walk_root}

-- what stood in front of rows is met, and then what comes after it
unfoldable then_meet : {X : Type 0} → Front X → (X → List Met) → (X → List Row → Option (List Met)) → Option (List Met)
then_meet ill w k = none
then_meet (front x rs ns) w k = follow (w x) (k x rs)

then_as : {X Y : Type 0} (c : X → Y) (q : Front X) (w : Y → List Met) (k : Y → List Row → Option (List Met)) → then_meet (as_a c q) w k ≡ then_meet q (λ x. w (c x)) (λ x. k (c x))
unfolding as_a on_front then_meet
then_as c ill w k = refl
then_as c (front x rs ns) w k = refl

-- where the two agree on all that can be found
then_same : {X : Type 0} (Q : X → List Row → List (List ℕ) → Type 0) (q : Front X) (w w' : X → List Met) (k k' : X → List Row → Option (List Met)) → FoundAs Q q
    → ((x : X) (rs : List Row) (ns : List (List ℕ)) → Q x rs ns → follow (w x) (k x rs) ≡ follow (w' x) (k' x rs)) → then_meet q w k ≡ then_meet q w' k'
unfolding then_meet
then_same Q ill w w' k k' h e = refl
then_same Q (front x rs ns) w w' k k' h e = e x rs ns h

-- ---- coordinates: they have no rows, and are found exactly where there are number texts enough
no_rows_law : {X : Type 0} (xs : List X) → flat_map no_rows xs ≡ []
unfolding flat_map
no_rows_law [] = refl
no_rows_law (x ∷ xs) = no_rows_law xs

texts_long : (w : ℕ) (cs : List Coord) → All (λ c. length c ≡ w) cs → length (flat_map coord_texts cs) ≡ length cs * w
unfolding flat_map All
texts_long w [] a = let z : 0 * w ≡ 0 = omega arith in sym z
texts_long w (c ∷ cs) a =
    let e : suc (length cs) * w ≡ length cs * w + w = suc-mul (length cs) w in
    let h : length (flat_map coord_texts cs) ≡ length cs * w = texts_long w cs a.1 in
    let g : length c ≡ w = a.0 in
    simp length-append (omega (arith, e, h, g))

-- where nothing is found, there are too few
abbrev Lacks : {X : Type 0} → ℕ → ℕ → Front X → Type 0
Lacks have need ill = have < need
Lacks have need (front x rs ns) = Unit {0}

lacks_as : {X Y : Type 0} (c : X → Y) (q : Front X) (have need have' need' : ℕ) → Lacks have need q → (have < need → have' < need') → Lacks have' need' (as_a c q)
unfolding as_a on_front
lacks_as c ill have need have' need' h k = k h
lacks_as c (front x rs ns) have need have' need' h k = tt

text_lacks : (w : ℕ) (rs : List Row) (ns : List (List ℕ)) → Lacks (length ns) w (times find_text w rs ns)
unfolding times find_text on_front
text_lacks zero rs ns = tt
text_lacks (suc w) rs [] = omega arith
text_lacks (suc w) rs (x ∷ ns) = lacks_as _ (times find_text w rs ns) (length ns) w (suc (length ns)) (suc w) (text_lacks w rs ns) (λ h. omega arith)

coords_lack : (d n : ℕ) (rs : List Row) (ns : List (List ℕ)) → Lacks (length ns) (n * width d) (times (find_coord d) n rs ns)
unfolding times on_front
coords_lack d zero rs ns = tt
coords_lack d (suc n) rs ns = go (find_coord d rs ns) (coord_sound d rs ns) (text_lacks (width d) rs ns) (coords_lack d n)
  where
    go : (q : Front Coord) → FoundAs (Is no_rows coord_texts (CoordShape d) rs ns) q → Lacks (length ns) (width d) q → ((rs1 : List Row) (ns1 : List (List ℕ)) → Lacks (length ns1) (n * width d) (times (find_coord d) n rs1 ns1)) →
        Lacks (length ns) (suc n * width d) (on_front q λ x rs1 ns1. as_a (λ (xs : List Coord). x ∷ xs) (times (find_coord d) n rs1 ns1))
    go ill h l ih = let e = suc-mul n (width d) in omega (arith, e, l)
    go (front c rs1 ns1) h l ih =
        let e = suc-mul n (width d) in
        let g : length ns ≡ length c + length ns1 = ap length h.1 ∙ simp length-append in
        lacks_as _ (times (find_coord d) n rs1 ns1) (length ns1) (n * width d) (length ns) (suc n * width d) (ih rs1 ns1) (λ k. omega (arith, e, g, h.2, k))

module _ (count : ℕ) where
  -- from here on, after a part with its rows and its number texts
  abbrev after : {X : Type 0} → (X → List Row) → (X → List (List ℕ)) → List Frame → ℕ → ℕ → X → List Row → Option (List Met)
  after ro nu fs i j x rs = meets count fs (i + length (ro x)) (j + length (nu x)) rs

  -- a child of the frame's node is found in the rows exactly when it is met
  Meets : {X : Type 0} → Frame → List Frame → Finder X → (X → List Row) → (X → List (List ℕ)) → Walker X → Type 0
  Meets f fs F ro nu w = (i j : ℕ) (rs : List Row) (ns : List (List ℕ)) → j + length ns ≡ count → meets_rows count (f ∷ fs) i j rs ≡ then_meet (F rs ns) (w f i j) (after ro nu (onward f ∷ fs) i j)

  -- ---- children, whatever they are
  module _ {X : Type 0} (F : Finder X) (ro : X → List Row) (nu : X → List (List ℕ)) (w : Walker X) (Q : X → Type 0) (sound : Sound ro nu Q F) (a k d depth n : ℕ) (fs : List Frame)
      (S : (m : ℕ) → Meets (frame a k d depth n m) fs F ro nu w) where
    abbrev to : ℕ → Frame
    to m = frame a k d depth n m

    abbrev Kids : ℕ → ℕ → Type 0
    Kids l m = (i j : ℕ) (rs : List Row) (ns : List (List ℕ)) → j + length ns ≡ count → meets count (to m ∷ fs) i j rs ≡ then_meet (times F l rs ns) (walk_each ro nu w (to m) i j) (after (flat_map ro) (flat_map nu) (to n ∷ fs) i j)

    more : (l m i j : ℕ) (x : X) (q : Front (List X)) →
        follow (w (to m) i j x) (then_meet q (walk_each ro nu w (to (m + 1)) (i + length (ro x)) (j + length (nu x))) (after (flat_map ro) (flat_map nu) (to n ∷ fs) (i + length (ro x)) (j + length (nu x))))
        ≡ then_meet (as_a (λ (xs : List X). x ∷ xs) q) (walk_each ro nu w (to m) i j) (after (flat_map ro) (flat_map nu) (to n ∷ fs) i j)
    unfolding then_meet walk_each flat_map as_a on_front
    more l m i j x ill = refl
    more l m i j x (front xs rs ns) =
        let a : i + length (ro x ++ flat_map ro xs) ≡ i + length (ro x) + length (flat_map ro xs) = simp length-append (omega arith) in
        let b : j + length (nu x ++ flat_map nu xs) ≡ j + length (nu x) + length (flat_map nu xs) = simp length-append (omega arith) in
        rw (a, b) (sym (follow_both (w (to m) i j x) (walk_each ro nu w (to (m + 1)) (i + length (ro x)) (j + length (nu x)) xs) (meets count (to n ∷ fs) (i + length (ro x) + length (flat_map ro xs)) (j + length (nu x) + length (flat_map nu xs)) rs)))

    kids : (l m : ℕ) → m + l ≡ n → Kids l m
    unfolding times then_meet walk_each flat_map on_front Meets
    kids zero m e i j rs ns c =
        let z : m ≡ n = omega arith in
        let a : i + 0 ≡ i = omega arith in
        let b : j + 0 ≡ j = omega arith in
        rw (z, a, b) (sym (follow_none (meets count (to n ∷ fs) i j rs)))
    kids (suc l) m e i j rs ns c =
        meets_open count (to m) fs i j rs (lt-leb n m (omega arith)) ∙ S m i j rs ns c ∙ go (F rs ns) (sound rs ns) (kids l (m + 1) (omega arith))
      where
        go : (q : Front X) → FoundAs (Is ro nu Q rs ns) q → Kids l (m + 1) →
            then_meet q (w (to m) i j) (after ro nu (to (m + 1) ∷ fs) i j) ≡ then_meet (on_front q λ x rs1 ns1. as_a (λ (xs : List X). x ∷ xs) (times F l rs1 ns1)) (walk_each ro nu w (to m) i j) (after (flat_map ro) (flat_map nu) (to n ∷ fs) i j)
        go ill h ih = refl
        go (front x rs1 ns1) h ih =
            let g : length ns ≡ length (nu x) + length ns1 = ap length h.1 ∙ simp length-append in
            ap (follow (w (to m) i j x)) (ih (i + length (ro x)) (j + length (nu x)) rs1 ns1 (omega arith)) ∙ more l m i j x (times F l rs1 ns1)

  -- ---- a row that may stand where it does
  -- the row k d n at i below f, and what follows it
  unfoldable shown : Frame → List Frame → ℕ → ℕ → ℕ → ℕ → ℕ → List Row → Option (List Met)
  shown f fs k d n i j rs =
      cond (is_leaf (visit_of i j f (row k d n)))
      (cond (leb (j + numbers_of (visit_of i j f (row k d n))) count) (follow (met.Node (visit_of i j f (row k d n)) ∷ []) (meets count (onward f ∷ fs) (i + 1) (j + numbers_of (visit_of i j f (row k d n))) rs)) none)
      (cond (may_open (visit_of i j f (row k d n))) (follow (met.Node (visit_of i j f (row k d n)) ∷ []) (meets count (frame_of (visit_of i j f (row k d n)) ∷ onward f ∷ fs) (i + 1) j rs)) none)

  row_shown : (f : Frame) (fs : List Frame) (k d n i j : ℕ) (rs : List Row) → meets_rows count (f ∷ fs) i j (row k d n ∷ rs) ≡ cond (is_allowed (visit_of i j f (row k d n))) (shown f fs k d n i j rs) none
  unfolding meets_rows meets_node meets shown
  row_shown f fs k d n i j rs = refl

  -- a node of kind k and dimension d is met with its parts exactly when they are found after its row
  Shows : {X : Type 0} → ℕ → ℕ → Frame → List Frame → Finder X → (X → List Row) → (X → List (List ℕ)) → Walker (List X) → Type 0
  Shows k d f fs F ro nu w = (n i j : ℕ) (rs : List Row) (ns : List (List ℕ)) → j + length ns ≡ count → shown f fs k d n i j rs ≡ then_meet (times F n rs ns) (w f i j) (after (rows_with k d ro) (flat_map nu) (onward f ∷ fs) i j)

  -- a node without parts
  empty_shown : {X : Type 0} (k d : ℕ) (f : Frame) (fs : List Frame) (ro : X → List Row) (nu : X → List (List ℕ)) (w : Walker X) (i j : ℕ) (rs : List Row) → leb k kind_line_string ≡ false → j ≤ count →
      shown f fs k d 0 i j rs ≡ follow (walk_nest ro nu w k d f i j []) (after (rows_with k d ro) (flat_map nu) (onward f ∷ fs) i j [] rs)
  unfolding shown numbers_of walk_parts rows_with flat_map
  empty_shown k d f fs ro nu w i j rs e h =
      let z : j + 0 ≡ j = omega arith in
      rw (e, z, le-leb j count h)

  -- a node with parts: it opens, and it ends after the last of them
  open_shown : (k d depth n i j : ℕ) (f : Frame) (fs : List Frame) (rs : List Row) → leb k kind_line_string ≡ false → may_open (visit_of i j f (row k d (suc n))) ≡ true → (frame_of (visit_of i j f (row k d (suc n)))).depth ≡ depth →
      shown f fs k d (suc n) i j rs ≡ follow (met.Node (visit_of i j f (row k d (suc n))) ∷ []) (meets count (frame i k d depth (suc n) 0 ∷ onward f ∷ fs) (i + 1) j rs)
  unfolding shown
  open_shown k d depth n i j f fs rs e may dp = rw (e, ne_eqb (suc n) 0 (λ z. omega arith), may, dp)

  ended : (k d depth n i r j : ℕ) (fs : List Frame) (rs : List Row) → (k ≡ 0 → ⊥) → meets count (frame i k d depth n n ∷ fs) (i + 1 + r) j rs ≡ follow (met.End i (suc r) ∷ []) (meets count fs (i + suc r) j rs)
  unfolding node_end
  ended k d depth n i r j fs rs nz =
      let a : i + 1 + r - i ≡ suc r = omega arith in
      let b : i + 1 + r ≡ i + suc r = omega arith in
      meets_spent count (frame i k d depth n n) fs (i + 1 + r) j rs (le-leb n n (omega arith)) ∙ rw (ne_eqb k 0 nz, a, b)

  closes : {X : Type 0} (ro : X → List Row) (nu : X → List (List ℕ)) (w : Walker X) (k d depth i j : ℕ) (f : Frame) (fs : List Frame) (xs : List X) (rs : List Row) → (k ≡ 0 → ⊥) → 1 ≤ length xs → (frame_of (visit_of i j f (row k d (length xs)))).depth ≡ depth →
      follow (met.Node (visit_of i j f (row k d (length xs))) ∷ []) (follow (walk_each ro nu w (frame i k d depth (length xs) 0) (i + 1) j xs) (after (flat_map ro) (flat_map nu) (frame i k d depth (length xs) (length xs) ∷ fs) (i + 1) j xs rs))
      ≡ follow (walk_nest ro nu w k d f i j xs) (after (rows_with k d ro) (flat_map nu) fs i j xs rs)
  unfolding walk_parts rows_with
  closes ro nu w k d depth i j f fs [] rs nz l dp = absurd (omega arith)
  closes {X} ro nu w k d depth i j f fs (x ∷ xs) rs nz l dp =
      let full : List X = x ∷ xs in
      let node : List Met = met.Node (visit_of i j f (row k d (length full))) ∷ [] in
      let inner : List Met = walk_each ro nu w (frame i k d depth (length full) 0) (i + 1) j full in
      let end : List Met = met.End i (suc (length (flat_map ro full))) ∷ [] in
      let rest = meets count fs (i + suc (length (flat_map ro full))) (j + length (flat_map nu full)) rs in
      rw dp (ap (λ o. follow node (follow inner o)) (ended k d depth (length full) i (length (flat_map ro full)) (j + length (flat_map nu full)) fs rs nz) ∙ ap (follow node) (sym (follow_both inner end rest)) ∙ sym (follow_both node (inner ++ end) rest))

  shows_nest : {X : Type 0} (F : Finder X) (ro : X → List Row) (nu : X → List (List ℕ)) (w : Walker X) (Q : X → Type 0) → Sound ro nu Q F → (k d depth : ℕ) (f : Frame) (fs : List Frame) → leb k kind_line_string ≡ false → (k ≡ 0 → ⊥)
      → ((n i j : ℕ) → may_open (visit_of i j f (row k d n)) ≡ true) → ((n i j : ℕ) → (frame_of (visit_of i j f (row k d n))).depth ≡ depth) → ((a n m : ℕ) → Meets (frame a k d depth n m) (onward f ∷ fs) F ro nu w) → Shows k d f fs F ro nu (walk_nest ro nu w k d)
  unfolding Shows times then_meet
  shows_nest F ro nu w Q sound k d depth f fs e nz may dp S zero i j rs ns c = empty_shown k d f fs ro nu w i j rs e (omega arith)
  shows_nest {X} F ro nu w Q sound k d depth f fs e nz may dp S (suc n) i j rs ns c =
      open_shown k d depth n i j f fs rs e (may (suc n) i j) (dp (suc n) i j)
      ∙ ap (follow (met.Node (visit_of i j f (row k d (suc n))) ∷ [])) (kids F ro nu w Q sound i k d depth (suc n) (onward f ∷ fs) (S i (suc n)) (suc n) 0 (omega arith) (i + 1) j rs ns c)
      ∙ go (times F (suc n) rs ns) (times_sound ro nu Q F sound (suc n) rs ns)
    where
      go : (q : Front (List X)) → FoundAs (Is (flat_map ro) (flat_map nu) (ExactlyAll Q (suc n)) rs ns) q →
          follow (met.Node (visit_of i j f (row k d (suc n))) ∷ []) (then_meet q (walk_each ro nu w (frame i k d depth (suc n) 0) (i + 1) j) (after (flat_map ro) (flat_map nu) (frame i k d depth (suc n) (suc n) ∷ onward f ∷ fs) (i + 1) j))
          ≡ then_meet q (walk_nest ro nu w k d f i j) (after (rows_with k d ro) (flat_map nu) (onward f ∷ fs) i j)
      go ill h = refl
      go (front xs rs1 ns1) h = rw (← h.2.1) (closes ro nu w k d depth i j f (onward f ∷ fs) xs rs1 nz (omega arith) (dp (length xs) i j))

  -- a node whose parts are coordinates
  shows_leaf : (k d : ℕ) (f : Frame) (fs : List Frame) → leb k kind_line_string ≡ true → Shows k d f fs (find_coord d) no_rows coord_texts (walk_leaf k d)
  unfolding Shows shown numbers_of then_meet rows_with
  shows_leaf k d f fs e n i j rs ns c = rw e (go (times (find_coord d) n rs ns) (times_sound no_rows coord_texts (CoordShape d) (find_coord d) (coord_sound d) n rs ns) (coords_lack d n rs ns))
    where
      go : (q : Front (List Coord)) → FoundAs (Is (flat_map no_rows) (flat_map coord_texts) (ExactlyAll (CoordShape d) n) rs ns) q → Lacks (length ns) (n * width d) q →
          cond (leb (j + n * width d) count) (follow (met.Node (visit_of i j f (row k d n)) ∷ []) (meets count (onward f ∷ fs) (i + 1) (j + n * width d) rs)) none
          ≡ then_meet q (walk_leaf k d f i j) (after (rows_with k d no_rows) (flat_map coord_texts) (onward f ∷ fs) i j)
      go ill h l = rw (lt-leb (j + n * width d) count (omega arith))
      go (front cs rs1 ns1) h l =
          let g : length ns ≡ length (flat_map coord_texts cs) + length ns1 = ap length h.1 ∙ simp length-append in
          let t : length (flat_map coord_texts cs) ≡ n * width d = texts_long (width d) cs h.2.0 ∙ ap (λ m. m * width d) h.2.1 in
          let r : rs ≡ rs1 = h.0 ∙ ap (λ l. l ++ rs1) (no_rows_law cs) in
          rw (le-leb (j + n * width d) count (omega arith), t, no_rows_law cs, r, h.2.1)

  -- ---- below kinds 3 to 6
  module _ {X : Type 0} (G : ℕ → Finder X) (ro : X → List Row) (nu : X → List (List ℕ)) (w : Walker X) (a kk dd depth l m : ℕ) (fs : List Frame) (c : ℕ) (inner : is_free kk ≡ false) (kind : child_kind kk ≡ c)
      (H : (n i j : ℕ) (rs : List Row) (ns : List (List ℕ)) → j + length ns ≡ count →
      cond (not (eqb kk kind_multi_point) || eqb n 1) (shown (frame a kk dd depth l m) fs c dd n i j rs) none ≡ then_meet (G n rs ns) (w (frame a kk dd depth l m) i j) (after ro nu (frame a kk dd depth l (m + 1) ∷ fs) i j)) where
    abbrev f : Frame
    f = frame a kk dd depth l m

    child_row : (k d n i j : ℕ) (rs : List Row) → meets_rows count (f ∷ fs) i j (row k d n ∷ rs) ≡ cond ((eqb k c && eqb d dd) && (not (eqb kk kind_multi_point) || eqb n 1)) (shown f fs k d n i j rs) none
    unfolding is_allowed
    child_row k d n i j rs = row_shown f fs k d n i j rs ∙ rw (inner, kind)

    child_meets : Meets f fs (find_row c dd G) ro nu w
    unfolding Meets find_row then_meet meets_rows at_last
    child_meets i j [] ns e = refl
    child_meets i j (r ∷ rs) ns e = child_row r.kind r.dimension r.parts i j rs ∙ go r.kind r.dimension r.parts (eqb r.kind c) refl (eqb r.dimension dd) refl
      where
        go : (k d n : ℕ) (p : Bool) → eqb k c ≡ p → (q : Bool) → eqb d dd ≡ q →
            cond ((p && q) && (not (eqb kk kind_multi_point) || eqb n 1)) (shown f fs k d n i j rs) none ≡ then_meet (cond p (cond q (G n rs ns) ill) ill) (w f i j) (after ro nu (frame a kk dd depth l (m + 1) ∷ fs) i j)
        go k d n false e1 q e2 = refl
        go k d n true e1 false e2 = refl
        go k d n true e1 true e2 = rw (eqb-true k c e1, eqb-true d dd e2) (H n i j rs ns e)

  line_meets : (a kk dd depth l m : ℕ) (fs : List Frame) → is_free kk ≡ false → child_kind kk ≡ kind_line_string → eqb kk kind_multi_point ≡ false → Meets (frame a kk dd depth l m) fs (find_line dd) (line_rows dd) line_texts (walk_line dd)
  unfolding Shows
  line_meets a kk dd depth l m fs inner kind other =
      child_meets (times (find_coord dd)) (line_rows dd) line_texts (walk_line dd) a kk dd depth l m fs kind_line_string inner kind
      (λ n i j rs ns e. rw other (shows_leaf kind_line_string dd (frame a kk dd depth l m) fs refl n i j rs ns e))

  polygon_shows : (d : ℕ) (f : Frame) (fs : List Frame) → Shows kind_polygon d f fs (find_line d) (line_rows d) line_texts (walk_polygon d)
  unfolding child_kind
  polygon_shows d f fs =
      shows_nest (find_line d) (line_rows d) line_texts (walk_line d) (LineShape d) (line_sound d) kind_polygon d f.depth f fs refl (λ z. omega arith) (λ n i j. refl) (λ n i j. refl)
      (λ a n m. line_meets a kind_polygon d f.depth n m (onward f ∷ fs) refl refl refl)

  polygon_meets : (a dd depth l m : ℕ) (fs : List Frame) → Meets (frame a kind_multi_polygon dd depth l m) fs (find_polygon dd) (polygon_rows dd) polygon_texts (walk_polygon dd)
  unfolding child_kind Shows
  polygon_meets a dd depth l m fs =
      child_meets (times (find_line dd)) (polygon_rows dd) polygon_texts (walk_polygon dd) a kind_multi_polygon dd depth l m fs kind_polygon refl refl
      (λ n i j rs ns e. polygon_shows dd (frame a kind_multi_polygon dd depth l m) fs n i j rs ns e)

  -- one coordinate is a list of one
  one_point_law : (d i j : ℕ) (rs : List Row) (ns : List (List ℕ)) (f : Frame) (fs : List Frame) → then_meet (times (find_coord d) 1 rs ns) (walk_leaf kind_point d f i j) (after (rows_with kind_point d no_rows) (flat_map coord_texts) fs i j) ≡ then_meet (find_coord d rs ns) (walk_point d f i j) (after (point_rows d) coord_texts fs i j)
  unfolding times on_front as_a then_meet flat_map
  one_point_law d i j rs ns f fs = go (find_coord d rs ns)
    where
      go : (q : Front Coord) → then_meet (on_front q λ x rs1 ns1. as_a (λ (xs : List Coord). x ∷ xs) (front [] rs1 ns1)) (walk_leaf kind_point d f i j) (after (rows_with kind_point d no_rows) (flat_map coord_texts) fs i j) ≡ then_meet q (walk_point d f i j) (after (point_rows d) coord_texts fs i j)
      go ill = refl
      go (front c rs1 ns1) = rw (append-nil c)

  point_meets : (a dd depth l m : ℕ) (fs : List Frame) → Meets (frame a kind_multi_point dd depth l m) fs (find_point dd) (point_rows dd) coord_texts (walk_point dd)
  unfolding child_kind Shows exactly_one then_meet
  point_meets a dd depth l m fs = child_meets (exactly_one dd) (point_rows dd) coord_texts (walk_point dd) a kind_multi_point dd depth l m fs kind_point refl refl points
    where
      go : (n : ℕ) (b : Bool) → eqb n 1 ≡ b → (i j : ℕ) (rs : List Row) (ns : List (List ℕ)) →
          cond b (then_meet (times (find_coord dd) n rs ns) (walk_leaf kind_point dd (frame a kind_multi_point dd depth l m) i j) (after (rows_with kind_point dd no_rows) (flat_map coord_texts) (frame a kind_multi_point dd depth l (m + 1) ∷ fs) i j)) none
          ≡ then_meet (cond b (find_coord dd rs ns) ill) (walk_point dd (frame a kind_multi_point dd depth l m) i j) (after (point_rows dd) coord_texts (frame a kind_multi_point dd depth l (m + 1) ∷ fs) i j)
      go n true e i j rs ns = rw (eqb-true n 1 e) (one_point_law dd i j rs ns (frame a kind_multi_point dd depth l m) (frame a kind_multi_point dd depth l (m + 1) ∷ fs))
      go n false e i j rs ns = refl

      points : (n i j : ℕ) (rs : List Row) (ns : List (List ℕ)) → j + length ns ≡ count →
          cond (not (eqb kind_multi_point kind_multi_point) || eqb n 1) (shown (frame a kind_multi_point dd depth l m) fs kind_point dd n i j rs) none
          ≡ then_meet (exactly_one dd n rs ns) (walk_point dd (frame a kind_multi_point dd depth l m) i j) (after (point_rows dd) coord_texts (frame a kind_multi_point dd depth l (m + 1) ∷ fs) i j)
      points n i j rs ns e = ap (λ o. cond (eqb n 1) o none) (shows_leaf kind_point dd (frame a kind_multi_point dd depth l m) fs refl n i j rs ns e) ∙ go n (eqb n 1) refl i j rs ns

  -- ---- at the root and in a collection
  module _ {X : Type 0} (F : Finder X) (ro : X → List Row) (nu : X → List (List ℕ)) (w : Walker X) (f : Frame) (fs : List Frame) (free : is_free f.kind ≡ true)
      (C : (d : ℕ) → Shows kind_geometry_collection d f fs F ro nu (walk_nest ro nu w kind_geometry_collection d)) where
    -- the node of the row k d n, of a kind and a dimension that there are
    abbrev Known : ℕ → Bool → Type 0
    Known k b = (d n i j : ℕ) (rs : List Row) (ns : List (List ℕ)) → j + length ns ≡ count →
        cond ((leb kind_point k && leb k kind_geometry_collection && b) && (not (eqb k kind_point) || leb n 1)) (shown f fs k d n i j rs) none
        ≡ then_meet (cond b (find_parts F k d n rs ns) ill) (walk_node ro nu w f i j) (after (node_rows ro) (node_texts nu) (onward f ∷ fs) i j)

    named : {Y : Type 0} (c : List Y → Node X) (G : Finder Y) (ro' : Y → List Row) (nu' : Y → List (List ℕ)) (k d : ℕ) (w' : Walker (List Y)) → Shows k d f fs G ro' nu' w'
        → ((ys : List Y) → rows_with k d ro' ys ≡ node_rows ro (c ys)) → ((ys : List Y) → flat_map nu' ys ≡ node_texts nu (c ys)) → ((i j : ℕ) (ys : List Y) → w' f i j ys ≡ walk_node ro nu w f i j (c ys))
        → (n i j : ℕ) (rs : List Row) (ns : List (List ℕ)) → j + length ns ≡ count → shown f fs k d n i j rs ≡ then_meet (as_a c (times G n rs ns)) (walk_node ro nu w f i j) (after (node_rows ro) (node_texts nu) (onward f ∷ fs) i j)
    unfolding Shows
    named c G ro' nu' k d w' S er en ew n i j rs ns e =
        S n i j rs ns e
        ∙ then_same (λ ys rs1 ns1. Unit {0}) (times G n rs ns) _ _ _ _ (all (times G n rs ns)) (λ ys rs1 ns1 u. rw (er ys, en ys, ew i j ys))
        ∙ sym (then_as c (times G n rs ns) (walk_node ro nu w f i j) (after (node_rows ro) (node_texts nu) (onward f ∷ fs) i j))
      where
        all : {Z : Type 0} (q : Front Z) → FoundAs (λ z rs1 ns1. Unit {0}) q
        all ill = tt
        all (front z rs1 ns1) = tt

    unknown : (k : ℕ) → kind_geometry_collection < k → Known k true
    unfolding find_parts then_meet
    unknown k h d n i j rs ns e =
        rw (lt-leb k kind_geometry_collection h, le-leb kind_point k (omega arith), ne_eqb k 1 (λ z. omega arith), ne_eqb k 2 (λ z. omega arith), ne_eqb k 3 (λ z. omega arith), ne_eqb k 4 (λ z. omega arith), ne_eqb k 5 (λ z. omega arith), ne_eqb k 6 (λ z. omega arith), ne_eqb k 7 (λ z. omega arith))

    nest : {Y : Type 0} (G : Finder Y) (ro' : Y → List Row) (nu' : Y → List (List ℕ)) (w' : Walker Y) (Q : Y → Type 0) → Sound ro' nu' Q G → (k d : ℕ) → leb k kind_line_string ≡ false → eqb k kind_geometry_collection ≡ false → (k ≡ 0 → ⊥)
        → ((a n m : ℕ) → Meets (frame a k d f.depth n m) (onward f ∷ fs) G ro' nu' w') → Shows k d f fs G ro' nu' (walk_nest ro' nu' w' k d)
    nest G ro' nu' w' Q sound k d e o nz S = shows_nest G ro' nu' w' Q sound k d f.depth f fs e nz (λ n i j. rw o) (λ n i j. rw o) S

    known : (k : ℕ) → Known k true
    unfolding find_parts then_meet at_most_one child_kind
    known zero d n i j rs ns e = refl
    known (suc zero) d n i j rs ns e =
        ap (λ o. cond (leb n 1) o none) (named (point_n d) (find_coord d) no_rows coord_texts 1 d (walk_leaf 1 d) (shows_leaf 1 d f fs refl) (λ ys. refl) (λ ys. refl) (λ i j ys. refl) n i j rs ns e) ∙ go (leb n 1) (as_a (point_n d) (times (find_coord d) n rs ns))
      where
        go : (b : Bool) (q : Front (Node X)) → cond b (then_meet q (walk_node ro nu w f i j) (after (node_rows ro) (node_texts nu) (onward f ∷ fs) i j)) none ≡ then_meet (cond b q ill) (walk_node ro nu w f i j) (after (node_rows ro) (node_texts nu) (onward f ∷ fs) i j)
        go true q = refl
        go false q = refl
    known (suc (suc zero)) d n i j rs ns e = named (line_n d) (find_coord d) no_rows coord_texts 2 d (walk_leaf 2 d) (shows_leaf 2 d f fs refl) (λ ys. refl) (λ ys. refl) (λ i j ys. refl) n i j rs ns e
    known (suc (suc (suc zero))) d n i j rs ns e = named (polygon_n d) (find_line d) (line_rows d) line_texts 3 d (walk_polygon d) (polygon_shows d f fs) (λ ys. refl) (λ ys. refl) (λ i j ys. refl) n i j rs ns e
    known (suc (suc (suc (suc zero)))) d n i j rs ns e =
        named (multipoint_n d) (find_point d) (point_rows d) coord_texts 4 d (walk_nest (point_rows d) coord_texts (walk_point d) 4 d)
        (nest (find_point d) (point_rows d) coord_texts (walk_point d) (CoordShape d) (point_sound d) 4 d refl refl (λ z. omega arith) (λ a n m. point_meets a d f.depth n m (onward f ∷ fs))) (λ ys. refl) (λ ys. refl) (λ i j ys. refl) n i j rs ns e
    known (suc (suc (suc (suc (suc zero))))) d n i j rs ns e =
        named (multiline_n d) (find_line d) (line_rows d) line_texts 5 d (walk_nest (line_rows d) line_texts (walk_line d) 5 d)
        (nest (find_line d) (line_rows d) line_texts (walk_line d) (LineShape d) (line_sound d) 5 d refl refl (λ z. omega arith) (λ a n m. line_meets a 5 d f.depth n m (onward f ∷ fs) refl refl refl)) (λ ys. refl) (λ ys. refl) (λ i j ys. refl) n i j rs ns e
    known (suc (suc (suc (suc (suc (suc zero)))))) d n i j rs ns e =
        named (multipolygon_n d) (find_polygon d) (polygon_rows d) polygon_texts 6 d (walk_nest (polygon_rows d) polygon_texts (walk_polygon d) 6 d)
        (nest (find_polygon d) (polygon_rows d) polygon_texts (walk_polygon d) (PolygonShape d) (polygon_sound d) 6 d refl refl (λ z. omega arith) (λ a n m. polygon_meets a d f.depth n m (onward f ∷ fs))) (λ ys. refl) (λ ys. refl) (λ i j ys. refl) n i j rs ns e
    known (suc (suc (suc (suc (suc (suc (suc zero))))))) d n i j rs ns e = named (collection_n d) F ro nu 7 d (walk_nest ro nu w 7 d) (C d) (λ ys. refl) (λ ys. refl) (λ i j ys. refl) n i j rs ns e
    known (suc (suc (suc (suc (suc (suc (suc (suc k)))))))) d n i j rs ns e = unknown (suc (suc (suc (suc (suc (suc (suc (suc k)))))))) (omega arith) d n i j rs ns e

    dimensionless : (k : ℕ) → Known k false
    unfolding then_meet
    dimensionless k d n i j rs ns e = go (leb kind_point k) (leb k kind_geometry_collection) (not (eqb k kind_point) || leb n 1)
      where
        go : (a b c : Bool) → cond {A = Option (List Met)} ((a && b && false) && c) (shown f fs k d n i j rs) none ≡ none
        go true true c = refl
        go true false c = refl
        go false true c = refl
        go false false c = refl

    node_meets : Meets f fs (find_node F) (node_rows ro) (node_texts nu) (walk_node ro nu w)
    unfolding Meets find_node meets_rows at_last is_allowed then_meet
    node_meets i j [] ns e = refl
    node_meets i j (r ∷ rs) ns e = row_shown f fs r.kind r.dimension r.parts i j rs ∙ rw free (go r.kind r.dimension r.parts (leb r.dimension dim_xyzm))
      where
        go : (k d n : ℕ) (b : Bool) → cond ((leb kind_point k && leb k kind_geometry_collection && b) && (not (eqb k kind_point) || leb n 1)) (shown f fs k d n i j rs) none ≡ then_meet (cond b (find_parts F k d n rs ns) ill) (walk_node ro nu w f i j) (after (node_rows ro) (node_texts nu) (onward f ∷ fs) i j)
        go k d n true = known k d n i j rs ns e
        go k d n false = dimensionless k d n i j rs ns e

  -- "at most 32 non-empty collections lie on a path": below the last of them no collection has children
  last_shows : (d : ℕ) (f : Frame) (fs : List Frame) → f.depth ≡ depth_limit → Shows kind_geometry_collection d f fs (find_none {X = ⊥}) no_rows no_texts (walk_nest no_rows no_texts walk_nothing kind_geometry_collection d)
  unfolding Shows shown times then_meet on_front
  last_shows d f fs e zero i j rs ns c = empty_shown kind_geometry_collection d f fs no_rows no_texts walk_nothing i j rs refl (omega arith)
  last_shows d f fs e (suc n) i j rs ns c = rw (ne_eqb (suc n) 0 (λ z. omega arith), e)

  -- a tree of at most t collections on a path, where the frame has the others above it
  tree_meets : (t a k d depth n m : ℕ) (fs : List Frame) → is_free k ≡ true → depth + t ≡ depth_limit → Meets (frame a k d depth n m) fs (find_tree t) (rows t) (texts t) (walk_tree t)
  tree_meets zero a k d depth n m fs free e = node_meets find_none no_rows no_texts walk_nothing (frame a k d depth n m) fs free (λ d'. last_shows d' (frame a k d depth n m) fs (omega arith))
  tree_meets (suc t) a k d depth n m fs free e =
      node_meets (find_tree t) (rows t) (texts t) (walk_tree t) (frame a k d depth n m) fs free
      (λ d'. shows_nest (find_tree t) (rows t) (texts t) (walk_tree t) (Shape t) (tree_sound t) kind_geometry_collection d' (depth + 1) (frame a k d depth n m) fs refl (λ z. omega arith) (λ n' i j. lt-ltb depth depth_limit (omega arith)) (λ n' i j. refl)
      (λ a' n' m'. tree_meets t a' kind_geometry_collection d' (depth + 1) n' m' (onward (frame a k d depth n m) ∷ fs) refl (omega arith)))

-- after the root
ended_root : (count : ℕ) (rs : List Row) (ns : List (List ℕ)) (q : Front (Tree depth_limit)) → count ≡ length ns → FoundAs (Is (rows depth_limit) (texts depth_limit) (Shape depth_limit) rs ns) q →
    then_meet q walk_root (after count (rows depth_limit) (texts depth_limit) (onward above ∷ []) 0 0) ≡ map_o walk_root (whole q)
unfolding whole then_meet meets meets_rows node_ends still_open node_end at_last
ended_root count rs ns ill c h = refl
ended_root count rs ns (front t [] []) c h =
    let g : length ns ≡ length (texts depth_limit t) + 0 = ap length h.1 ∙ simp length-append in
    rw (eq-eqb (0 + length (texts depth_limit t)) count (omega arith), append-nil (walk_root t))
ended_root count rs ns (front t [] (x ∷ ns1)) c h =
    let g : length ns ≡ length (texts depth_limit t) + suc (length ns1) = ap length h.1 ∙ simp length-append in
    rw (ne_eqb (0 + length (texts depth_limit t)) count (λ z. omega arith))
ended_root count rs ns (front t (r ∷ rs1) ns1) c h = refl

-- "its rows are exactly one preorder tree [..], the numbers are exactly as many as needed": the walk gets through exactly where there is a tree, and meets what the
-- tree's walk meets
pub walk_is_tree : (rs : List Row) (ns : List (List ℕ)) → meets (length ns) (above ∷ []) 0 0 rs ≡ map_o walk_root (tree_in depth_limit rs ns)
unfolding Meets
walk_is_tree rs ns =
    meets_open (length ns) above [] 0 0 rs refl
    ∙ tree_meets (length ns) depth_limit 0 no_kind 0 0 1 0 [] refl refl 0 0 rs ns (omega arith)
    ∙ ended_root (length ns) rs ns (find_tree depth_limit rs ns) refl (tree_sound depth_limit rs ns)
