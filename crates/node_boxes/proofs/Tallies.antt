-- Whether all numbers are some, and the first offence, as they are told on the way through a tree: those of its coordinates, in order.
-- Assumes nothing.
use mathlib.Core.Path.{◌≡◌, refl, ap, ap₂, sym, ◌∙◌, subst}
use mathlib.Core.Bool.{Bool, true, false, cond, ◌&&◌, and-true, and-false, and_assoc}
use mathlib.Core.List.{List, [], ◌∷◌, ◌++◌, flat_map, append-nil, append_assoc}
use Prim.Native.Nat.{ℕ, zero, suc, ◌+◌, ◌-◌, ◌≤◌}
use native.Mathlib.Omega.{arith}
use lib.Dec.{eqb, leb}
use lib.ListN.{length, length-append}
use Rattle.lists.specs.Lists.{All}
use Rattle.kinds.specs.Kinds.{kind_point, kind_line_string, kind_polygon, kind_multi_point, kind_multi_line_string, kind_multi_polygon, kind_geometry_collection, width}
use Rattle.store.specs.Rows.{Row, span_start_at, span_length_at}
use Rattle.tree.specs.Tree.{Coord, Node, point_n, line_n, polygon_n, multipoint_n, multiline_n, multipolygon_n, collection_n, Tree, row_over, rows_with, no_rows, point_rows, line_rows, polygon_rows, rows, coord_texts, line_texts, polygon_texts, node_texts, no_texts, texts, CoordShape, LineShape, PolygonShape, NodeShape, NoShape, Shape}
use Rattle.nodes.specs.declared.Frame.{Frame}
use Rattle.nodes.specs.declared.Met.{Met}
use Rattle.nodes.specs.declared.Met.TheVariants as met
use Rattle.nodes.specs.Nodes.{above, visit_of, frame_of, onward}
use Rattle.shape.specs.Visits.{Walker, walk_each, walk_leaf, walk_parts, walk_nest, walk_point, walk_line, walk_polygon, walk_node, walk_nothing, walk_tree}
use Rattle.shape.specs.Numbers.{text_at, is_number_at}
use Rattle.number.specs.Lexeme.{is_named, is_lexeme}
use Rattle.std.specs.Prelude.{Ok, Err}
use Rattle.rounding.specs.declared.NoSides.TheVariants.{Named, Beyond, NoNumber}
use Rattle.rounding.specs.Rounding.{Reckoned, sides}
use Rattle.decimal.specs.Reckon.{sides_of, reckoned}
use Rattle.scan.specs.Bytes.{is_sign}
use Rattle.scan.specs.Front.{after_one}
use Rattle.decimal.specs.Decimal.{written}
use Rattle.decimal.specs.Units.{low, high, is_far, is_large}
use Rattle.bounds.specs.declared.BoxAnswer.{BoxAnswer}
use Rattle.bounds.specs.Bounds.{box_answer}
use Rattle.node_boxes.specs.declared.Seen.{Seen}
use Rattle.node_boxes.specs.Boxes.{offence_of, fine, offence_at, or_first, first_offence, point_coords, line_coords, polygon_coords, node_coords, no_coords, coords}
use Rattle.node_boxes.specs.Turns.{reckoned_at, are_good, seen, offence_in, unseen, seen_next, seen_up_to, with_others, seen_one, seen_on, own, good_by, offence_by}
use Rattle.node_boxes.proofs.Trees.{wide_two, Reads, reads_right}

pub first_assoc : (a b c : BoxAnswer) → or_first (or_first a b) c ≡ or_first a (or_first b c)
first_assoc a b c = go (eqb a.number 0) refl
  where
    go : (x : Bool) → eqb a.number 0 ≡ x → or_first (or_first a b) c ≡ or_first a (or_first b c)
    go true e = rw e
    go false e = rw (e, e)

-- a number's text comes to a numeral, and no other bytes do
abbrev is_numeral : Reckoned → Bool
is_numeral (Ok x) = true
is_numeral (Err Named) = true
is_numeral (Err Beyond) = true
is_numeral (Err NoNumber) = false

numeral_reckoned : (l : List ℕ) → is_numeral (reckoned l) ≡ is_lexeme l
unfolding reckoned sides_of
numeral_reckoned l = go (is_lexeme l) (is_named (after_one is_sign l)) (is_far (written l)) (is_large (written l))
  where
    go : (a b c d : Bool) → is_numeral (cond a (cond b (Err Named) (cond c (Err Beyond) (cond d (Err Beyond) (Ok (sides (low (written l)) (high (written l))))))) (Err NoNumber)) ≡ a
    go true true c d = refl
    go true false true d = refl
    go true false false true = refl
    go true false false false = refl
    go false b c d = refl

-- ---- what was seen of some, and then of others
unfoldable pub both : Seen → Seen → Seen
both s u = seen (s.good && u.good) (or_first (offence_in s) (offence_in u))

both_assoc : (a b c : Seen) → both (both a b) c ≡ both a (both b c)
unfolding both
both_assoc a b c = ap₂ seen (and_assoc a.good b.good c.good) (first_assoc (offence_in a) (offence_in b) (offence_in c))

none_both : (s : Seen) → both unseen s ≡ s
unfolding both
none_both s = refl

-- nothing after it changes nothing
Clean : Seen → Type 0
Clean s = both s unseen ≡ s

clean_both : (a b : Seen) → Clean b → Clean (both a b)
unfolding Clean
clean_both a b c = both_assoc a b unseen ∙ ap (both a) c

pub offence_clean : (numbers : List ℕ) (j n : ℕ) → or_first (offence_at numbers j n) fine ≡ offence_at numbers j n
offence_clean numbers j n = go (eqb n 0) refl
  where
    go : (x : Bool) → eqb n 0 ≡ x → or_first (cond x fine (box_answer n (span_start_at numbers j))) fine ≡ cond x fine (box_answer n (span_start_at numbers j))
    go true e = refl
    go false e = rw e

-- ---- the texts of a part's coordinates are its number texts
flat_append : (a b : List Coord) → flat_map coord_texts (a ++ b) ≡ flat_map coord_texts a ++ flat_map coord_texts b
unfolding flat_map
flat_append [] b = refl
flat_append (c ∷ a) b = ap (λ l. c ++ l) (flat_append a b) ∙ sym (append_assoc c (flat_map coord_texts a) (flat_map coord_texts b))

flat_same : {X : Type 0} (nu : X → List (List ℕ)) (co : X → List Coord) → ((x : X) → flat_map coord_texts (co x) ≡ nu x) → (xs : List X) → flat_map coord_texts (flat_map co xs) ≡ flat_map nu xs
unfolding flat_map
flat_same nu co same [] = refl
flat_same nu co same (x ∷ xs) = flat_append (co x) (flat_map co xs) ∙ ap₂ (λ a b. a ++ b) (same x) (flat_same nu co same xs)

one_point_law : (c : Coord) → flat_map coord_texts (point_coords c) ≡ coord_texts c
unfolding flat_map
one_point_law c = append-nil c

polygon_texts_law : (ls : List (List Coord)) → flat_map coord_texts (polygon_coords ls) ≡ polygon_texts ls
polygon_texts_law ls = flat_same line_texts line_coords (λ cs. refl) ls

node_texts_law : {X : Type 0} (nu : X → List (List ℕ)) (co : X → List Coord) → ((x : X) → flat_map coord_texts (co x) ≡ nu x) → (n : Node X) → flat_map coord_texts (node_coords co n) ≡ node_texts nu n
node_texts_law nu co same (point_n d cs) = refl
node_texts_law nu co same (line_n d cs) = refl
node_texts_law nu co same (polygon_n d ls) = flat_same line_texts line_coords (λ cs. refl) ls
node_texts_law nu co same (multipoint_n d cs) = flat_same coord_texts point_coords one_point_law cs
node_texts_law nu co same (multiline_n d ls) = flat_same line_texts line_coords (λ cs. refl) ls
node_texts_law nu co same (multipolygon_n d ps) = flat_same polygon_texts polygon_coords polygon_texts_law ps
node_texts_law nu co same (collection_n d ts) = flat_same nu co same ts

pub coords_texts : (d : ℕ) (t : Tree d) → flat_map coord_texts (coords d t) ≡ texts d t
coords_texts zero t = node_texts_law no_texts no_coords (λ x. absurd x) t
coords_texts (suc d) t = node_texts_law (texts d) (coords d) (coords_texts d) t

-- ---- each coordinate of a tree has an X and a Y
abbrev Wide : Coord → Type 0
Wide c = 2 ≤ length c

all_append_both : {A : Type 0} (P : A → Type 0) (xs ys : List A) → All P xs → All P ys → All P (xs ++ ys)
unfolding All
all_append_both P [] ys a b = b
all_append_both P (x ∷ xs) ys a b = (a.0, all_append_both P xs ys a.1 b)

wide_flat : {X : Type 0} (Q : X → Type 0) (co : X → List Coord) → ((x : X) → Q x → All Wide (co x)) → (xs : List X) → All Q xs → All Wide (flat_map co xs)
unfolding All flat_map
wide_flat Q co wide [] q = tt
wide_flat Q co wide (x ∷ xs) q = all_append_both Wide (co x) (flat_map co xs) (wide x q.0) (wide_flat Q co wide xs q.1)

wide_point : (d : ℕ) (c : Coord) → CoordShape d c → All Wide (point_coords c)
unfolding All
wide_point d c q = (omega (arith, q, wide_two d), tt)

wide_line : (d : ℕ) (cs : List Coord) → LineShape d cs → All Wide (line_coords cs)
unfolding All
wide_line d [] q = tt
wide_line d (c ∷ cs) q = (omega (arith, q.0, wide_two d), wide_line d cs q.1)

wide_polygon : (d : ℕ) (ls : List (List Coord)) → PolygonShape d ls → All Wide (polygon_coords ls)
wide_polygon d ls q = wide_flat (LineShape d) line_coords (wide_line d) ls q

wide_node : {X : Type 0} (Q : X → Type 0) (co : X → List Coord) → ((x : X) → Q x → All Wide (co x)) → (n : Node X) → NodeShape Q n → All Wide (node_coords co n)
wide_node Q co wide (point_n d cs) q = wide_line d cs q.1
wide_node Q co wide (line_n d cs) q = wide_line d cs q.1
wide_node Q co wide (polygon_n d ls) q = wide_flat (LineShape d) line_coords (wide_line d) ls q.1
wide_node Q co wide (multipoint_n d cs) q = wide_flat (CoordShape d) point_coords (wide_point d) cs q.1
wide_node Q co wide (multiline_n d ls) q = wide_flat (LineShape d) line_coords (wide_line d) ls q.1
wide_node Q co wide (multipolygon_n d ps) q = wide_flat (PolygonShape d) polygon_coords (wide_polygon d) ps q.1
wide_node Q co wide (collection_n d ts) q = wide_flat Q co wide ts q.1

pub wide_coords : (d : ℕ) (t : Tree d) → Shape d t → All (λ (c : Coord). 2 ≤ length c) (coords d t)
wide_coords zero t q = wide_node NoShape no_coords (λ x h. absurd h) t q
wide_coords (suc d) t q = wide_node (Shape d) (coords d) (wide_coords d) t q

module _ (text numbers : List ℕ) where
  -- a coordinate's X and Y
  abbrev pub offences : ℕ → BoxAnswer
  offences j = or_first (offence_at numbers j (offence_of (reckoned_at text numbers j))) (offence_at numbers (j + 1) (offence_of (reckoned_at text numbers (j + 1))))

  abbrev pub one : Coord → ℕ → Seen
  one c j = seen (are_good text numbers j (length c)) (offences j)

  unfoldable pub seen_all : List Coord → ℕ → Seen
  seen_all [] j = unseen
  seen_all (c ∷ cs) j = both (one c j) (seen_all cs (j + length c))

  one_clean : (c : Coord) (j : ℕ) → Clean (one c j)
  unfolding Clean both
  one_clean c j =
      ap₂ seen (and-true (are_good text numbers j (length c)))
      (first_assoc (offence_at numbers j (offence_of (reckoned_at text numbers j))) (offence_at numbers (j + 1) (offence_of (reckoned_at text numbers (j + 1)))) fine
      ∙ ap (or_first (offence_at numbers j (offence_of (reckoned_at text numbers j)))) (offence_clean numbers (j + 1) (offence_of (reckoned_at text numbers (j + 1)))))

  all_clean : (cs : List Coord) (j : ℕ) → Clean (seen_all cs j)
  unfolding Clean seen_all both
  all_clean [] j = refl
  all_clean (c ∷ cs) j = clean_both (one c j) (seen_all cs (j + length c)) (all_clean cs (j + length c))

  all_append : (xs ys : List Coord) (j : ℕ) → seen_all (xs ++ ys) j ≡ both (seen_all xs j) (seen_all ys (j + length (flat_map coord_texts xs)))
  unfolding seen_all flat_map
  all_append [] ys j = let z : j + 0 ≡ j = omega arith in rw z (sym (none_both (seen_all ys j)))
  all_append (c ∷ xs) ys j =
      let z : j + length (c ++ flat_map coord_texts xs) ≡ j + length c + length (flat_map coord_texts xs) = simp length-append (omega arith) in
      rw (z, all_append xs ys (j + length c)) (sym (both_assoc (one c j) (seen_all xs (j + length c)) (seen_all ys (j + length c + length (flat_map coord_texts xs)))))

  -- ---- a coordinate more
  numeral_at : (i : ℕ) → is_numeral (reckoned_at text numbers i) ≡ is_number_at text numbers i
  unfolding reckoned_at is_number_at text_at
  numeral_at i = go (leb (span_start_at numbers i + span_length_at numbers i) (length text))
    where
      go : (b : Bool) → is_numeral (cond b (reckoned (text_at text numbers i)) (Err NoNumber)) ≡ (b && is_lexeme (text_at text numbers i))
      go true = numeral_reckoned (text_at text numbers i)
      go false = refl

  good_one : (w at : ℕ) (g : Bool) → 2 ≤ w → (((g && is_number_at text numbers at) && is_number_at text numbers (at + 1)) && are_good text numbers (at + 2) (w - 2)) ≡ (g && are_good text numbers at w)
  unfolding are_good
  good_one zero at g h = absurd (omega arith)
  good_one (suc zero) at g h = absurd (omega arith)
  good_one (suc (suc w)) at g h =
      let z : suc (suc w) - 2 ≡ w = omega arith in
      let y : at + 2 ≡ at + 1 + 1 = omega arith in
      rw (z, y) (and_assoc (g && is_number_at text numbers at) (is_number_at text numbers (at + 1)) (are_good text numbers (at + 1 + 1) w) ∙ and_assoc g (is_number_at text numbers at) (is_number_at text numbers (at + 1) && are_good text numbers (at + 1 + 1) w))

  -- one X or Y more
  abbrev number_seen : ℕ → Reckoned → Seen
  number_seen i x = seen (is_numeral x) (offence_at numbers i (offence_of x))

  number_clean : (i : ℕ) (x : Reckoned) → Clean (number_seen i x)
  unfolding Clean both
  number_clean i x = ap₂ seen (and-true (is_numeral x)) (offence_clean numbers i (offence_of x))

  next_both : (i : ℕ) (x : Reckoned) (s : Seen) → Clean s → seen_next numbers i x s ≡ both s (number_seen i x)
  unfolding Clean both
  next_both i (Ok x) s c = sym c
  next_both i (Err Named) s c = ap (λ g. seen g (or_first (offence_in s) (box_answer 30 (span_start_at numbers i)))) (sym (and-true s.good))
  next_both i (Err Beyond) s c = ap (λ g. seen g (or_first (offence_in s) (box_answer 31 (span_start_at numbers i)))) (sym (and-true s.good))
  next_both i (Err NoNumber) s c = ap₂ seen (sym (and-false s.good)) (sym (ap offence_in c))

  up_to_both : (at : ℕ) (s : Seen) → Clean s → seen_up_to text numbers at 2 s ≡ both (both s (number_seen at (reckoned_at text numbers at))) (number_seen (at + 1) (reckoned_at text numbers (at + 1)))
  unfolding seen_up_to
  up_to_both at s c =
      let z : at + 0 ≡ at = omega arith in
      let x : Seen = number_seen at (reckoned_at text numbers at) in
      rw z (ap (seen_next numbers (at + 1) (reckoned_at text numbers (at + 1))) (next_both at (reckoned_at text numbers at) s c) ∙ next_both (at + 1) (reckoned_at text numbers (at + 1)) (both s x) (clean_both s x (number_clean at (reckoned_at text numbers at))))

  seen_one_law : (d at : ℕ) (c : Coord) (s : Seen) → Clean s → length c ≡ width d → seen_one text numbers (width d) at s ≡ both s (one c at)
  unfolding seen_one both
  seen_one_law d at c s k e =
      ap (with_others (are_good text numbers (at + 2) (width d - 2))) (up_to_both at s k)
      ∙ ap₂ seen
      (ap₂ (λ x y. ((s.good && x) && y) && are_good text numbers (at + 2) (width d - 2)) (numeral_at at) (numeral_at (at + 1))
      ∙ good_one (width d) at s.good (wide_two d)
      ∙ ap (λ n. s.good && are_good text numbers at n) (sym e))
      (first_assoc (offence_in s) (offence_at numbers at (offence_of (reckoned_at text numbers at))) (offence_at numbers (at + 1) (offence_of (reckoned_at text numbers (at + 1)))))

  -- a node's own coordinates
  on_all : (d at : ℕ) (cs : List Coord) (s : Seen) → All (CoordShape d) cs → Clean s → seen_on text numbers (width d) at (length cs) s ≡ both s (seen_all cs at)
  unfolding seen_on seen_all All Clean
  on_all d at [] s q c = sym c
  on_all d at (x ∷ xs) s q c =
      ap (seen_on text numbers (width d) (at + width d) (length xs)) (seen_one_law d at x s c q.0)
      ∙ on_all d (at + width d) xs (both s (one x at)) q.1 (clean_both s (one x at) (one_clean x at))
      ∙ ap (λ n. both (both s (one x at)) (seen_all xs (at + n))) (sym q.0)
      ∙ both_assoc s (one x at) (seen_all xs (at + length x))

  -- ---- on the way through a tree
  unfoldable pub seen_by : Seen → List Met → Seen
  seen_by s [] = s
  seen_by s (met.Node v ∷ ms) = seen_by (both s (own text numbers v)) ms
  seen_by s (met.End i n ∷ ms) = seen_by s ms
  seen_by s (met.Done ∷ ms) = seen_by s ms
  seen_by s (met.Ill ∷ ms) = seen_by s ms

  by_append : (s : Seen) (ms ns : List Met) → seen_by s (ms ++ ns) ≡ seen_by (seen_by s ms) ns
  unfolding seen_by
  by_append s [] ns = refl
  by_append s (met.Node v ∷ ms) ns = by_append (both s (own text numbers v)) ms ns
  by_append s (met.End i n ∷ ms) ns = by_append s ms ns
  by_append s (met.Done ∷ ms) ns = by_append s ms ns
  by_append s (met.Ill ∷ ms) ns = by_append s ms ns

  unfoldable Tallies : {X : Type 0} → (X → List (List ℕ)) → (X → List Coord) → (X → Type 0) → Walker X → Type 0
  Tallies {X} nu co Q w = (f : Frame) (i j : ℕ) (x : X) (s : Seen) → Q x → Clean s → seen_by s (w f i j x) ≡ both s (seen_all (co x) j)

  leaf_tallies : (k d : ℕ) → leb k kind_line_string ≡ true → Tallies (flat_map coord_texts) line_coords (All (CoordShape d)) (walk_leaf k d)
  unfolding Tallies seen_by own Clean both
  leaf_tallies k d e f i j cs s q c = rw e (ap (both s) (on_all d j cs unseen q refl ∙ none_both (seen_all cs j)))

  -- the texts of the coordinates are the number texts
  module _ {X : Type 0} (ro : X → List Row) (nu : X → List (List ℕ)) (co : X → List Coord) (Q : X → Type 0) (w : Walker X) (tallies : Tallies nu co Q w) (same : (x : X) → flat_map coord_texts (co x) ≡ nu x) where
    each_tallies : (xs : List X) (f : Frame) (i j : ℕ) (s : Seen) → All Q xs → Clean s → seen_by s (walk_each ro nu w f i j xs) ≡ both s (seen_all (flat_map co xs) j)
    unfolding walk_each flat_map seen_by seen_all All Tallies Clean
    each_tallies [] f i j s q c = sym c
    each_tallies (x ∷ xs) f i j s q c =
        by_append s (w f i j x) (walk_each ro nu w (onward f) (i + length (ro x)) (j + length (nu x)) xs)
        ∙ ap (λ u. seen_by u (walk_each ro nu w (onward f) (i + length (ro x)) (j + length (nu x)) xs)) (tallies f i j x s q.0 c)
        ∙ each_tallies xs (onward f) (i + length (ro x)) (j + length (nu x)) (both s (seen_all (co x) j)) q.1 (clean_both s (seen_all (co x) j) (all_clean (co x) j))
        ∙ both_assoc s (seen_all (co x) j) (seen_all (flat_map co xs) (j + length (nu x)))
        ∙ ap (both s) (ap (λ ts. both (seen_all (co x) j) (seen_all (flat_map co xs) (j + length ts))) (sym (same x)) ∙ sym (all_append (co x) (flat_map co xs) j))

    nest_tallies : (k d : ℕ) → leb k kind_line_string ≡ false → Tallies (flat_map nu) (flat_map co) (All Q) (walk_nest ro nu w k d)
    unfolding Tallies seen_by own walk_parts flat_map seen_all Clean
    nest_tallies k d e f i j [] s q c = rw e refl
    nest_tallies k d e f i j (x ∷ xs) s q c =
        ap (λ u. seen_by (both s u) (inner ++ (met.End i (length (rows_with k d ro (x ∷ xs))) ∷ []))) nothing_own
        ∙ ap (λ u. seen_by u (inner ++ (met.End i (length (rows_with k d ro (x ∷ xs))) ∷ []))) c
        ∙ by_append s inner (met.End i (length (rows_with k d ro (x ∷ xs))) ∷ [])
        ∙ each_tallies (x ∷ xs) (frame_of (visit_of i j f (row_over k d ro (x ∷ xs)))) (i + 1) j s q c
      where
        inner : List Met
        inner = walk_each ro nu w (frame_of (visit_of i j f (row_over k d ro (x ∷ xs)))) (i + 1) j (x ∷ xs)

        nothing_own : own text numbers (visit_of i j f (row_over k d ro (x ∷ xs))) ≡ unseen
        nothing_own = rw e

  -- ---- the parts of kinds 3 to 6
  point_tallies : (d : ℕ) → Tallies coord_texts point_coords (CoordShape d) (walk_point d)
  unfolding Tallies All
  point_tallies d f i j c s q k = leaf_tallies kind_point d refl f i j (c ∷ []) s (q, tt) k

  line_tallies : (d : ℕ) → Tallies line_texts line_coords (LineShape d) (walk_line d)
  line_tallies d = leaf_tallies kind_line_string d refl

  polygon_tallies : (d : ℕ) → Tallies polygon_texts polygon_coords (PolygonShape d) (walk_polygon d)
  polygon_tallies d = nest_tallies (line_rows d) line_texts line_coords (LineShape d) (walk_line d) (line_tallies d) (λ cs. refl) kind_polygon d refl

  -- ---- nodes and trees
  module _ {X : Type 0} (ro : X → List Row) (nu : X → List (List ℕ)) (co : X → List Coord) (Q : X → Type 0) (w : Walker X) (tallies : Tallies nu co Q w) (same : (x : X) → flat_map coord_texts (co x) ≡ nu x) where
    node_tallies : Tallies (node_texts nu) (node_coords co) (NodeShape Q) (walk_node ro nu w)
    unfolding Tallies
    node_tallies f i j (point_n d cs) s q c = leaf_tallies kind_point d refl f i j cs s q.1 c
    node_tallies f i j (line_n d cs) s q c = leaf_tallies kind_line_string d refl f i j cs s q.1 c
    node_tallies f i j (polygon_n d ls) s q c = nest_tallies (line_rows d) line_texts line_coords (LineShape d) (walk_line d) (line_tallies d) (λ cs. refl) kind_polygon d refl f i j ls s q.1 c
    node_tallies f i j (multipoint_n d cs) s q c = nest_tallies (point_rows d) coord_texts point_coords (CoordShape d) (walk_point d) (point_tallies d) one_point_law kind_multi_point d refl f i j cs s q.1 c
    node_tallies f i j (multiline_n d ls) s q c = nest_tallies (line_rows d) line_texts line_coords (LineShape d) (walk_line d) (line_tallies d) (λ cs. refl) kind_multi_line_string d refl f i j ls s q.1 c
    node_tallies f i j (multipolygon_n d ps) s q c = nest_tallies (polygon_rows d) polygon_texts polygon_coords (PolygonShape d) (walk_polygon d) (polygon_tallies d) polygon_texts_law kind_multi_polygon d refl f i j ps s q.1 c
    node_tallies f i j (collection_n d ts) s q c = nest_tallies ro nu co Q w tallies same kind_geometry_collection d refl f i j ts s q.1 c

  nothing_tallies : (X : Type 0) → Tallies {X = X} no_texts no_coords NoShape walk_nothing
  unfolding Tallies
  nothing_tallies X f i j x s q c = absurd q

  tree_tallies : (d : ℕ) → Tallies (texts d) (coords d) (Shape d) (walk_tree d)
  tree_tallies zero = node_tallies no_rows no_texts no_coords NoShape walk_nothing (nothing_tallies ⊥) (λ x. absurd x)
  tree_tallies (suc d) = node_tallies (rows d) (texts d) (coords d) (Shape d) (walk_tree d) (tree_tallies d) (coords_texts d)

  -- ---- from above the root
  -- what is told by things that are met, each by itself
  by_good : (s : Seen) (ms : List Met) → (seen_by s ms).good ≡ good_by text numbers s.good ms
  unfolding seen_by good_by both
  by_good s [] = refl
  by_good s (met.Node v ∷ ms) = by_good (both s (own text numbers v)) ms
  by_good s (met.End i n ∷ ms) = by_good s ms
  by_good s (met.Done ∷ ms) = by_good s ms
  by_good s (met.Ill ∷ ms) = by_good s ms

  by_offence : (s : Seen) (ms : List Met) → offence_in (seen_by s ms) ≡ offence_by text numbers (offence_in s) ms
  unfolding seen_by offence_by both
  by_offence s [] = refl
  by_offence s (met.Node v ∷ ms) = by_offence (both s (own text numbers v)) ms
  by_offence s (met.End i n ∷ ms) = by_offence s ms
  by_offence s (met.Done ∷ ms) = by_offence s ms
  by_offence s (met.Ill ∷ ms) = by_offence s ms

  pub good_append : (a b j : ℕ) → are_good text numbers j (a + b) ≡ (are_good text numbers j a && are_good text numbers (j + a) b)
  unfolding are_good
  good_append zero b j = let z : 0 + b ≡ b = omega arith in let y : j + 0 ≡ j = omega arith in rw (z, y)
  good_append (suc a) b j =
      let z : suc a + b ≡ suc (a + b) = omega arith in
      let y : j + suc a ≡ j + 1 + a = omega arith in
      rw (z, y, good_append a b (j + 1)) (sym (and_assoc (is_number_at text numbers j) (are_good text numbers (j + 1) a) (are_good text numbers (j + 1 + a) b)))

  all_good_law : (cs : List Coord) (j : ℕ) → (seen_all cs j).good ≡ are_good text numbers j (length (flat_map coord_texts cs))
  unfolding seen_all both flat_map are_good
  all_good_law [] j = refl
  all_good_law (c ∷ cs) j = rw (length-append c (flat_map coord_texts cs), good_append (length c) (length (flat_map coord_texts cs)) j, all_good_law cs (j + length c))

  all_offence : (cs : List Coord) (j : ℕ) → Reads text numbers j (flat_map coord_texts cs) → All (λ c. 2 ≤ length c) cs → offence_in (seen_all cs j) ≡ first_offence numbers j cs
  unfolding seen_all both flat_map first_offence All Reads
  all_offence [] j r q = refl
  all_offence ([] ∷ cs) j r q = absurd (omega (arith, q.0))
  all_offence ((x ∷ []) ∷ cs) j r q = absurd (omega (arith, q.0))
  all_offence ((x ∷ y ∷ c) ∷ cs) j r q =
      let k : ℕ = j + suc (suc (length c)) in
      let z : j + 0 ≡ j = omega arith in
      let a : reckoned_at text numbers (j + 0) ≡ reckoned x = r 0 (omega arith) in
      let b : reckoned_at text numbers (j + 1) ≡ reckoned y = r 1 (omega arith) in
      ap₂ (λ u v. or_first (or_first (offence_at numbers j (offence_of u)) (offence_at numbers (j + 1) (offence_of v))) (offence_in (seen_all cs k))) (rw z at a) b
      ∙ ap (or_first (or_first (offence_at numbers j (offence_of (reckoned x))) (offence_at numbers (j + 1) (offence_of (reckoned y))))) (all_offence cs k (reads_right text numbers j (x ∷ y ∷ c) (flat_map coord_texts cs) r) q.1)
      ∙ first_assoc (offence_at numbers j (offence_of (reckoned x))) (offence_at numbers (j + 1) (offence_of (reckoned y))) (first_offence numbers k cs)

  pub root_good : (d : ℕ) (x : Tree d) → Shape d x → good_by text numbers true (walk_tree d above 0 0 x) ≡ are_good text numbers 0 (length (texts d x))
  unfolding Tallies Clean both
  root_good d x q = sym (by_good unseen (walk_tree d above 0 0 x)) ∙ ap (λ (s : Seen). s.good) (tree_tallies d above 0 0 x unseen q refl) ∙ all_good_law (coords d x) 0 ∙ ap (λ ts. are_good text numbers 0 (length ts)) (coords_texts d x)

  pub root_offence : (d : ℕ) (x : Tree d) → Shape d x → Reads text numbers 0 (texts d x) → offence_by text numbers fine (walk_tree d above 0 0 x) ≡ first_offence numbers 0 (coords d x)
  unfolding Tallies Clean both
  root_offence d x q r =
      sym (by_offence unseen (walk_tree d above 0 0 x))
      ∙ ap offence_in (tree_tallies d above 0 0 x unseen q refl ∙ none_both (seen_all (coords d x) 0))
      ∙ all_offence (coords d x) 0 (subst (Reads text numbers 0) (sym (coords_texts d x)) r) (wide_coords d x q)
