-- A box beside each node, as the tree says it (request 2026-03): "a table with lowest and highest X and Y of each node's own and descendants' coordinates, in
-- units of a ten-millionth".
use Rattle.std.specs.Prelude.{◌≡◌, cond, ℕ, zero, suc, ◌+◌, eqb, ltb, ℤ, pos, length}
use Rattle.std.proofs.Common.{sym, ◌∙◌}
use Rattle.std.proofs.Math.Option.{Option, none, some}
use mathlib.Core.List.{List, [], ◌∷◌, map, flat_map}
use Rattle.limits.specs.Limits.{depth_limit}
use Rattle.refusals.specs.Refusals.{ill_formed_store, no_room, no_finite_number, number_too_large}
use Rattle.store.specs.Rows.{span_start_at}
use Rattle.tree.specs.Tree.{Coord, Node, point_n, line_n, polygon_n, multipoint_n, multiline_n, multipolygon_n, collection_n, Tree, rows}
use Rattle.shape.specs.Store.{tree_of}
use Rattle.std.specs.Prelude.{Ok, Err}
use Rattle.rounding.specs.declared.NoSides.TheVariants.{Named, Beyond, NoNumber}
use Rattle.rounding.specs.Rounding.{Reckoned}
use Rattle.decimal.specs.Reckon.{reckoned}
use Rattle.bounds.specs.declared.BoxAnswer.{BoxAnswer}
use Rattle.bounds.specs.Bounds.{BoxRow, lower, higher, box, box_row, five_of, no_box, padded, box_answer}

-- ---- a coordinate
-- its X and its Y; "Z and M are not looked at"
abbrev pub x_text : Coord → List ℕ
x_text [] = []
x_text (x ∷ c) = x

abbrev pub y_text : Coord → List ℕ
y_text [] = []
y_text (x ∷ []) = []
y_text (x ∷ y ∷ c) = y

-- "lows rounded down, highs rounded up"
abbrev pub low_in : Reckoned → ℤ
low_in (Ok s) = s.low
low_in (Err e) = pos 0

abbrev pub high_in : Reckoned → ℤ
high_in (Ok s) = s.high
high_in (Err e) = pos 0

abbrev pub low_x : Coord → ℤ
low_x c = low_in (reckoned (x_text c))

abbrev pub high_x : Coord → ℤ
high_x c = high_in (reckoned (x_text c))

abbrev pub low_y : Coord → ℤ
low_y c = low_in (reckoned (y_text c))

abbrev pub high_y : Coord → ℤ
high_y c = high_in (reckoned (y_text c))

-- ---- the row of a node that has these coordinates, its own and its descendants'
-- the lowest and the highest of a number and others
unfoldable pub lowest : ℤ → List ℤ → ℤ
lowest a [] = a
lowest a (b ∷ l) = lowest (lower a b) l

unfoldable pub highest : ℤ → List ℤ → ℤ
highest a [] = a
highest a (b ∷ l) = highest (higher a b) l

-- "1, low X, high X, low Y, high Y; all 0 without coordinates"
unfoldable pub box_around : List Coord → BoxRow
box_around [] = no_box
box_around (c ∷ cs) = box_row (pos 1) (box (lowest (low_x c) (map low_x cs)) (highest (high_x c) (map high_x cs)) (lowest (low_y c) (map low_y cs)) (highest (high_y c) (map high_y cs)))

-- ---- "of each node's own and descendants' coordinates": those under each part, in order
abbrev pub point_coords : Coord → List Coord
point_coords c = c ∷ []

abbrev pub line_coords : List Coord → List Coord
line_coords cs = cs

abbrev pub polygon_coords : List (List Coord) → List Coord
polygon_coords ls = flat_map line_coords ls

abbrev pub node_coords : {X : Type 0} → (X → List Coord) → Node X → List Coord
node_coords f (point_n d cs) = cs
node_coords f (line_n d cs) = cs
node_coords f (polygon_n d ls) = flat_map line_coords ls
node_coords f (multipoint_n d cs) = flat_map point_coords cs
node_coords f (multiline_n d ls) = flat_map line_coords ls
node_coords f (multipolygon_n d ps) = flat_map polygon_coords ps
node_coords f (collection_n d ts) = flat_map f ts

abbrev pub no_coords : {X : Type 0} → X → List Coord
no_coords x = []

abbrev pub coords : (d : ℕ) → Tree d → List Coord
coords zero t = node_coords no_coords t
coords (suc d) t = node_coords (coords d) t

-- ---- "Rows in node order": the row of a node, and after it those of its parts
abbrev pub leaf_boxes : List Coord → List BoxRow
leaf_boxes cs = box_around cs ∷ []

unfoldable pub nest_boxes : {X : Type 0} → (X → List Coord) → (X → List BoxRow) → List X → List BoxRow
nest_boxes co bo xs = box_around (flat_map co xs) ∷ flat_map bo xs

abbrev pub point_boxes : Coord → List BoxRow
point_boxes c = leaf_boxes (c ∷ [])

abbrev pub polygon_boxes : List (List Coord) → List BoxRow
polygon_boxes ls = nest_boxes line_coords leaf_boxes ls

abbrev pub node_boxes : {X : Type 0} → (X → List Coord) → (X → List BoxRow) → Node X → List BoxRow
node_boxes co bo (point_n d cs) = leaf_boxes cs
node_boxes co bo (line_n d cs) = leaf_boxes cs
node_boxes co bo (polygon_n d ls) = nest_boxes line_coords leaf_boxes ls
node_boxes co bo (multipoint_n d cs) = nest_boxes point_coords point_boxes cs
node_boxes co bo (multiline_n d ls) = nest_boxes line_coords leaf_boxes ls
node_boxes co bo (multipolygon_n d ps) = nest_boxes polygon_coords polygon_boxes ps
node_boxes co bo (collection_n d ts) = nest_boxes co bo ts

abbrev pub no_boxes : {X : Type 0} → X → List BoxRow
no_boxes x = []

abbrev pub boxes : (d : ℕ) → Tree d → List BoxRow
boxes zero t = node_boxes no_coords no_boxes t
boxes (suc d) t = node_boxes (coords d) (boxes d) t

-- ---- refusals
-- "30 for inf or nan, 31 for an exponent beyond 9,999 either way or a scaled size over 10^17"
abbrev pub offence_of : Reckoned → ℕ
offence_of (Ok s) = 0
offence_of (Err Named) = no_finite_number
offence_of (Err Beyond) = number_too_large
offence_of (Err NoNumber) = 0

-- nothing offends
abbrev pub fine : BoxAnswer
fine = box_answer 0 0

-- "the place of 30 and 31 is the span's start": that of the number row j
abbrev pub offence_at : List ℕ → ℕ → ℕ → BoxAnswer
offence_at numbers j number = cond (eqb number 0) fine (box_answer number (span_start_at numbers j))

-- the one, if it offends, or else the other
abbrev pub or_first : BoxAnswer → BoxAnswer → BoxAnswer
or_first a b = cond (eqb a.number 0) b a

-- "the first offending X or Y", "in number order", of coordinates whose numbers stand from the number row j on
unfoldable pub first_offence : List ℕ → ℕ → List Coord → BoxAnswer
first_offence numbers j [] = fine
first_offence numbers j (c ∷ cs) =
    or_first (offence_at numbers j (offence_of (reckoned (x_text c))))
    (or_first (offence_at numbers (j + 1) (offence_of (reckoned (y_text c)))) (first_offence numbers (j + length c) cs))

-- ---- what is answered
-- rows of the table, or a refusal's number and place
pub data Outcome : Type 0 where
  boxed : List BoxRow → Outcome
  refused : ℕ → ℕ → Outcome

abbrev pub unless_offence : BoxAnswer → List BoxRow → Outcome
unless_offence a rs = cond (eqb a.number 0) (boxed rs) (refused a.number a.place)

-- "22; 23 for fewer table rows [..] than nodes; then 30 or 31"
abbrev pub boxes_if : List ℕ → ℕ → Option (Tree depth_limit) → Outcome
boxes_if numbers room none = refused ill_formed_store 0
boxes_if numbers room (some t) =
    cond (ltb room (length (rows depth_limit t)))
    (refused no_room 0)
    (unless_offence (first_offence numbers 0 (coords depth_limit t)) (boxes depth_limit t))

-- the boxes of a store, with room for so many rows
unfoldable pub boxes_of : List ℕ → List ℕ → List ℕ → ℕ → Outcome
boxes_of text nodes numbers room = boxes_if numbers room (tree_of text nodes numbers)

abbrev pub answer_of : Outcome → BoxAnswer
answer_of (boxed rs) = fine
answer_of (refused number place) = box_answer number place

-- the used rows: none after a refusal
abbrev pub used_boxes : Outcome → List ℤ
used_boxes (boxed rs) = flat_map five_of rs
used_boxes (refused number place) = []

-- the answer, and every place of the table: "unused places zero, all zero on a refusal"
pub record FillsTable (o : Outcome) (t : List ℤ) (a : BoxAnswer) (t' : List ℤ) : Type 0 where
  pub answer : a ≡ answer_of o
  pub table : t' ≡ padded (used_boxes o) (length t)

-- two outcomes that such a contract allows coincide
pub fills_one : {o : Outcome} {t : List ℤ} {a a' : BoxAnswer} {t' t'' : List ℤ} → FillsTable o t a t' → FillsTable o t a' t'' → (a ≡ a') × (t' ≡ t'')
fills_one x y = (x.answer ∙ sym y.answer, x.table ∙ sym y.table)
