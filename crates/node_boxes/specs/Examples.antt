-- Worked examples of this crate's definitions, by computation: the boxes of small stores, each refusal and their order, and what the code makes of the things
-- that a walk meets.
use Rattle.std.specs.Prelude.{◌≡◌, refl, true, false, ℕ, ℤ, pos, neg_ℤ}
use mathlib.Core.List.{List, [], ◌∷◌, ◌++◌, map, flat_map}
use Rattle.kinds.specs.Kinds.{width}
use Rattle.scan.specs.Text.{bytes}
use Rattle.scan.specs.Front.{begins, after_one, after_all, is_nil}
use Rattle.words.specs.Words.{same_word}
use Rattle.lists.specs.Lists.{every}
use Rattle.number.specs.Lexeme.{is_named, is_digits, is_exponent, is_decimal, is_unsigned, is_lexeme}
use Rattle.store.specs.Rows.{Row, node_row, node_over, cell, firsts, rows_in, spans_in, flat_rows}
use Rattle.tree.specs.Tree.{rows_with}
use Rattle.tree.specs.TreeIn.{on_front, as_a, times, find_text, find_row, exactly_one, at_most_one, find_parts, find_node, whole}
use Rattle.nodes.specs.declared.Frame.{Frame}
use Rattle.nodes.specs.declared.Visit.{Visit}
use Rattle.nodes.specs.declared.Met.{Met}
use Rattle.nodes.specs.declared.Met.TheVariants.{Node, End, Done}
use Rattle.nodes.specs.Nodes.{frame, above, visit_of}
use Rattle.shape.specs.Numbers.{text_at, is_number_at, are_numbers}
use Rattle.shape.specs.Store.{are_whole, tree_of}
use Rattle.std.specs.Prelude.{Ok, Err}
use Rattle.rounding.specs.declared.NoSides.TheVariants.{Named, Beyond, NoNumber}
use Rattle.rounding.specs.Rounding.{Reckoned}
use Rattle.decimal.specs.Decimal.{leading, read_on, written}
use Rattle.decimal.specs.Units.{whole_units, is_left, low, high, is_large}
use Rattle.decimal.specs.Reckon.{sides_of, reckoned}
use Rattle.bounds.specs.Bounds.{BoxRow, box, box_row, no_box, merge, nothing, done_row, put_five, box_cell, opened, widened, closed, zeros, padded, box_answer}
use Rattle.node_boxes.specs.Boxes.{x_text, y_text, lowest, highest, box_around, nest_boxes, offence_of, offence_at, or_first, first_offence, fine, Outcome, boxed, refused, boxes_of, answer_of, used_boxes}
use Rattle.node_boxes.specs.Turns.{reckoned_at, are_good, seen, unseen, found_on, seen_next, seen_up_to, with_others, seen_one, seen_on, widened_axis, axis_next, sided_up_to, around_on, own, own_box, ended_leaf, good_by, offence_by, entered, table_by, verdict}

-- numbers, two words, what is too large, and what is none
text : List ℕ
text = bytes "1 2 -3 0.00000004 -0.5 inf nan 1e11 x"

-- spans of the text's numbers
n1 : List ℕ
n1 = 0 ∷ 1 ∷ []

n2 : List ℕ
n2 = 2 ∷ 1 ∷ []

m3 : List ℕ
m3 = 4 ∷ 2 ∷ []

tiny : List ℕ
tiny = 7 ∷ 10 ∷ []

half : List ℕ
half = 18 ∷ 4 ∷ []

inf : List ℕ
inf = 23 ∷ 3 ∷ []

nan : List ℕ
nan = 27 ∷ 3 ∷ []

huge : List ℕ
huge = 31 ∷ 4 ∷ []

bad : List ℕ
bad = 36 ∷ 1 ∷ []

neg : ℕ → ℤ
neg n = neg_ℤ (pos n)

-- a node with no rows under it
leaf : ℕ → ℕ → ℕ → List Row
leaf k d n = node_over k d n []

-- a number's two sides
abbrev both_sides : ℤ → ℤ → Reckoned
both_sides low high = Ok (record { low = low; high = high })

-- a row with a box
sides : ℤ → ℤ → ℤ → ℤ → BoxRow
sides left right bottom top = box_row (pos 1) (box left right bottom top)

-- the boxes of rows and numbers, in a table with nine rows
says : List Row → List ℕ → Outcome
says rows numbers = boxes_of text (flat_rows rows) numbers 9

-- in a table with so many
within : ℕ → List Row → List ℕ → Outcome
within room rows numbers = boxes_of text (flat_rows rows) numbers room

-- `GEOMETRYCOLLECTION(POINT EMPTY,GEOMETRYCOLLECTION(POINT(-3 -0.5),LINESTRING EMPTY),LINESTRING(1 2,2 1))`
collection : List Row
collection = node_over 7 0 3 (leaf 1 0 0 ++ node_over 7 0 2 (leaf 1 0 1 ++ leaf 2 0 0) ++ leaf 2 0 2)

-- `POLYGON((1 2,2 1),(-3 0.00000004))`
polygon : List Row
polygon = node_over 3 0 2 (leaf 2 0 2 ++ leaf 2 0 1)

all : ℕ
unfolding text n1 n2 m3 tiny half inf nan huge bad neg leaf sides says within collection polygon flat_rows begins after_one after_all is_nil same_word is_named is_digits is_exponent is_decimal is_unsigned is_lexeme every cell firsts rows_in spans_in width flat_map rows_with on_front as_a times find_text find_row exactly_one at_most_one find_parts find_node whole text_at is_number_at are_numbers are_whole tree_of leading read_on written whole_units is_left low high is_large sides_of reckoned lowest highest box_around nest_boxes first_offence boxes_of
all = 0

-- ---- boxes
-- `POINT(1 2)`: X and Y, in ten-millionths; `POINT EMPTY`: zeros
point : (says (leaf 1 0 1) (n1 ++ n2) ≡ boxed (sides (pos 10000000) (pos 10000000) (pos 20000000) (pos 20000000) ∷ [])) × (says (leaf 1 0 0) [] ≡ boxed (no_box ∷ []))
unfolding all
point = (refl, refl)

-- `POINT(0.00000004 -3)`: "lows rounded down, highs rounded up"
between : says (leaf 1 0 1) (tiny ++ m3) ≡ boxed (sides (pos 0) (pos 1) (neg 30000000) (neg 30000000) ∷ [])
unfolding all
between = refl

-- `POINT M(1 2 -3)`, `POINT Z(1 2 -3)` and `POINT ZM(1 2 -3 -0.5)`: "Z and M are not looked at"
measured :
    (says (leaf 1 2 1) (n1 ++ n2 ++ m3) ≡ boxed (sides (pos 10000000) (pos 10000000) (pos 20000000) (pos 20000000) ∷ []))
    × (says (leaf 1 1 1) (n1 ++ n2 ++ m3) ≡ boxed (sides (pos 10000000) (pos 10000000) (pos 20000000) (pos 20000000) ∷ []))
    × (says (leaf 1 3 1) (n1 ++ n2 ++ m3 ++ half) ≡ boxed (sides (pos 10000000) (pos 10000000) (pos 20000000) (pos 20000000) ∷ []))
unfolding all
measured = (refl, refl, refl)

-- `LINESTRING M(1 2 -3,-3 -0.5 1)`: each coordinate's own X and Y
line : says (leaf 2 2 2) (n1 ++ n2 ++ m3 ++ m3 ++ half ++ n1) ≡ boxed (sides (neg 30000000) (pos 10000000) (neg 5000000) (pos 20000000) ∷ [])
unfolding all
line = refl

-- `MULTIPOINT((1 2),(-3 -0.5))`: the box around both, and each
points :
    says (node_over 4 0 2 (leaf 1 0 1 ++ leaf 1 0 1)) (n1 ++ n2 ++ m3 ++ half)
    ≡ boxed (sides (neg 30000000) (pos 10000000) (neg 5000000) (pos 20000000) ∷ sides (pos 10000000) (pos 10000000) (pos 20000000) (pos 20000000) ∷ sides (neg 30000000) (neg 30000000) (neg 5000000) (neg 5000000) ∷ [])
unfolding all
points = refl

-- a polygon with two rings, and in a multipolygon
rings :
    (says polygon (n1 ++ n2 ++ n2 ++ n1 ++ m3 ++ tiny)
    ≡ boxed (sides (neg 30000000) (pos 20000000) (pos 0) (pos 20000000) ∷ sides (pos 10000000) (pos 20000000) (pos 10000000) (pos 20000000) ∷ sides (neg 30000000) (neg 30000000) (pos 0) (pos 1) ∷ []))
    × (says (node_over 6 0 1 polygon) (n1 ++ n2 ++ n2 ++ n1 ++ m3 ++ tiny)
    ≡ boxed (sides (neg 30000000) (pos 20000000) (pos 0) (pos 20000000) ∷ sides (neg 30000000) (pos 20000000) (pos 0) (pos 20000000) ∷ sides (pos 10000000) (pos 20000000) (pos 10000000) (pos 20000000) ∷ sides (neg 30000000) (neg 30000000) (pos 0) (pos 1) ∷ []))
unfolding all
rings = (refl, refl)

-- `MULTILINESTRING((1 2),EMPTY)`
lines : says (node_over 5 0 2 (leaf 2 0 1 ++ leaf 2 0 0)) (n1 ++ n2) ≡ boxed (sides (pos 10000000) (pos 10000000) (pos 20000000) (pos 20000000) ∷ sides (pos 10000000) (pos 10000000) (pos 20000000) (pos 20000000) ∷ no_box ∷ [])
unfolding all
lines = refl

-- a collection in a collection, with empty children: "of each node's own and descendants' coordinates"; a collection without coordinates has zeros
collections :
    (says collection (m3 ++ half ++ n1 ++ n2 ++ n2 ++ n1)
    ≡ boxed
    (sides (neg 30000000) (pos 20000000) (neg 5000000) (pos 20000000)
    ∷ no_box
    ∷ sides (neg 30000000) (neg 30000000) (neg 5000000) (neg 5000000)
    ∷ sides (neg 30000000) (neg 30000000) (neg 5000000) (neg 5000000)
    ∷ no_box
    ∷ sides (pos 10000000) (pos 20000000) (pos 10000000) (pos 20000000)
    ∷ []))
    × (says (node_over 7 0 1 (leaf 7 0 0)) [] ≡ boxed (no_box ∷ no_box ∷ []))
unfolding all
collections = (refl, refl)

-- X is the first text of a coordinate and Y the second
texts : (x_text (bytes "1" ∷ bytes "2" ∷ bytes "3" ∷ []) ≡ bytes "1") × (y_text (bytes "1" ∷ bytes "2" ∷ bytes "3" ∷ []) ≡ bytes "2")
texts = (refl, refl)

-- ---- refusals
-- 30 for `inf` and `nan`, 31 for what is too large, at the start of its span: of X and of Y
offending :
    (says (leaf 1 0 1) (inf ++ n1) ≡ refused 30 23) × (says (leaf 1 0 1) (n1 ++ inf) ≡ refused 30 23) × (says (leaf 1 0 1) (nan ++ n1) ≡ refused 30 27)
    × (says (leaf 1 0 1) (huge ++ n1) ≡ refused 31 31) × (says (leaf 1 0 1) (n1 ++ huge) ≡ refused 31 31)
unfolding all
offending = (refl, refl, refl, refl, refl)

-- none for Z and M, of any sort
free :
    (says (leaf 1 1 1) (n1 ++ n2 ++ inf) ≡ boxed (sides (pos 10000000) (pos 10000000) (pos 20000000) (pos 20000000) ∷ []))
    × (says (leaf 1 2 1) (n1 ++ n2 ++ huge) ≡ boxed (sides (pos 10000000) (pos 10000000) (pos 20000000) (pos 20000000) ∷ []))
    × (says (leaf 1 3 1) (n1 ++ n2 ++ nan ++ huge) ≡ boxed (sides (pos 10000000) (pos 10000000) (pos 20000000) (pos 20000000) ∷ []))
unfolding all
free = (refl, refl, refl)

-- "the first offending X or Y": X before Y of one coordinate, whichever it is; Y before a later X; in an earlier node before a later one
first :
    (says (leaf 1 0 1) (inf ++ huge) ≡ refused 30 23) × (says (leaf 1 0 1) (huge ++ inf) ≡ refused 31 31)
    × (says (leaf 2 0 2) (n1 ++ huge ++ inf ++ n1) ≡ refused 31 31) × (says (leaf 2 0 2) (n1 ++ inf ++ huge ++ n1) ≡ refused 30 23)
    × (says (node_over 4 0 2 (leaf 1 0 1 ++ leaf 1 0 1)) (n1 ++ nan ++ huge ++ n1) ≡ refused 30 27)
    × (says (leaf 2 1 2) (n1 ++ n2 ++ inf ++ n1 ++ huge ++ n2) ≡ refused 31 31)
unfolding all
first = (refl, refl, refl, refl, refl, refl)

-- an ill-formed store gives 22 before them: a number that is none, after an `inf`; a number that lacks; a node that lacks; a row that is cut
ill :
    (says (leaf 1 0 1) (inf ++ bad) ≡ refused 22 0) × (says (leaf 1 0 1) inf ≡ refused 22 0) × (says (leaf 1 1 1) (inf ++ n1 ++ bad) ≡ refused 22 0) × (says (leaf 7 0 1) [] ≡ refused 22 0)
    × (boxes_of text (flat_rows (leaf 1 0 1) ++ 0 ∷ []) (inf ++ n1) 9 ≡ refused 22 0) × (says [] [] ≡ refused 22 0)
unfolding all
ill = (refl, refl, refl, refl, refl, refl)

-- too few rows: 23 before 30 and 31, and after 22; with as many rows as nodes all is well
small :
    (within 0 (leaf 1 0 1) (inf ++ n1) ≡ refused 23 0) × (within 2 polygon (n1 ++ n2 ++ n2 ++ n1 ++ m3 ++ huge) ≡ refused 23 0) × (within 3 polygon (n1 ++ n2 ++ n2 ++ n1 ++ m3 ++ huge) ≡ refused 31 31)
    × (within 0 (leaf 1 0 1) (inf ++ bad) ≡ refused 22 0) × (within 0 (leaf 1 0 1) (n1 ++ n2) ≡ refused 23 0) × (within 1 (leaf 1 0 1) (tiny ++ n2) ≡ boxed (sides (pos 0) (pos 1) (pos 20000000) (pos 20000000) ∷ []))
unfolding all
small = (refl, refl, refl, refl, refl, refl)

-- ---- what is answered, and all of a table: of two rows and a place more, and of a refusal
answered :
    (answer_of (says (leaf 1 0 1) (n1 ++ n2)) ≡ box_answer 0 0)
    × (padded (used_boxes (says (leaf 1 0 1) (m3 ++ n2))) 11 ≡ (pos 1 ∷ neg 30000000 ∷ neg 30000000 ∷ pos 20000000 ∷ pos 20000000 ∷ []) ++ zeros 6)
    × (padded (used_boxes (says (leaf 1 0 0) [])) 6 ≡ zeros 6)
    × (answer_of (says (leaf 1 0 1) (n1 ++ inf)) ≡ box_answer 30 23) × (padded (used_boxes (says (leaf 1 0 1) (n1 ++ inf))) 11 ≡ zeros 11)
unfolding all
answered = (refl, refl, refl, refl, refl)

-- what refuses each outcome of a text; the place of it; the first of two
offences :
    (offence_of (both_sides (pos 0) (pos 1)) ∷ offence_of (Err Named) ∷ offence_of (Err Beyond) ∷ offence_of (Err NoNumber) ∷ [] ≡ 0 ∷ 30 ∷ 31 ∷ 0 ∷ [])
    × (offence_at (n1 ++ inf) 1 30 ≡ box_answer 30 23) × (offence_at (n1 ++ inf) 1 0 ≡ box_answer 0 0)
    × (or_first (box_answer 31 5) (box_answer 30 7) ≡ box_answer 31 5) × (or_first (box_answer 0 0) (box_answer 30 7) ≡ box_answer 30 7)
    × (first_offence (n1 ++ n2 ++ n1 ++ inf) 0 ((bytes "1" ∷ bytes "2" ∷ []) ∷ (bytes "1" ∷ bytes "inf" ∷ []) ∷ []) ≡ box_answer 30 23)
unfolding all
offences = (refl, refl, refl, refl, refl, refl)

-- the box around coordinates, and around none
around : (box_around [] ≡ no_box) × (box_around ((bytes "1" ∷ bytes "2" ∷ []) ∷ (bytes "-3" ∷ bytes "7" ∷ bytes "9" ∷ []) ∷ []) ≡ sides (neg 30000000) (pos 10000000) (pos 20000000) (pos 70000000)) × (lowest (pos 3) (pos 5 ∷ neg 1 ∷ pos 2 ∷ []) ≡ neg 1) × (highest (pos 3) (pos 5 ∷ neg 1 ∷ pos 2 ∷ []) ≡ pos 5)
unfolding all
around = (refl, refl, refl, refl)

-- ---- what the code makes of the things that a walk meets
-- a node in its place: its row, its first number, its parent, kind, dimension and parts
visited : ℕ → ℕ → Frame → ℕ → ℕ → ℕ → Visit
visited i j f k d n = visit_of i j f (node_row k d n [])

-- a multipoint of two points, at rows 0 to 2
met : List Met
met = Node (visited 0 0 above 4 0 2) ∷ Node (visited 1 0 (frame 0 4 0 0 2 0) 1 0 1) ∷ Node (visited 2 2 (frame 0 4 0 0 2 1) 1 0 1) ∷ End 0 3 ∷ Done ∷ []

turns : ℕ
unfolding visited met merge done_row put_five box_cell opened widened closed reckoned_at are_good seen_up_to seen_one seen_on sided_up_to around_on own good_by offence_by entered table_by
turns = 0

-- a number row: a number, each offence, what is none, a span that ends past the text, and beyond the rows
by_row :
    map (reckoned_at text (n1 ++ tiny ++ inf ++ huge ++ bad ++ 36 ∷ 2 ∷ [])) (0 ∷ 1 ∷ 2 ∷ 3 ∷ 4 ∷ 5 ∷ 6 ∷ [])
    ≡ both_sides (pos 10000000) (pos 10000000) ∷ both_sides (pos 0) (pos 1) ∷ Err Named ∷ Err Beyond ∷ Err NoNumber ∷ Err NoNumber ∷ Err NoNumber ∷ []
unfolding all turns
by_row = refl

good : are_good text (n1 ++ inf ++ bad) 0 2 ∷ are_good text (n1 ++ inf ++ bad) 1 2 ∷ are_good text (n1 ++ inf ++ bad) 3 0 ∷ [] ≡ true ∷ false ∷ true ∷ []
unfolding all turns
good = refl

-- one number more, by what it comes to: an offence counts where none did before, and what is no number spoils all
by_number :
    (seen_next (n1 ++ inf) 1 (both_sides (pos 0) (pos 1)) (seen true (box_answer 31 5)) ≡ seen true (box_answer 31 5)) × (seen_next (n1 ++ inf) 1 (Err Named) unseen ≡ seen true (box_answer 30 23)) × (seen_next (n1 ++ inf) 1 (Err Beyond) unseen ≡ seen true (box_answer 31 23))
    × (seen_next (n1 ++ inf) 1 (Err Named) (seen false (box_answer 31 5)) ≡ seen false (box_answer 31 5)) × (seen_next (n1 ++ inf) 1 (Err NoNumber) (seen true (box_answer 31 5)) ≡ seen false (box_answer 31 5))
    × (found_on (n1 ++ inf) 0 31 (seen false fine) ≡ seen false (box_answer 31 0)) × (with_others false (seen true (box_answer 30 7)) ≡ seen false (box_answer 30 7)) × (with_others true (seen false fine) ≡ seen false fine)
unfolding all turns
by_number = (refl, refl, refl, refl, refl, refl, refl, refl)

-- X alone, and then Y too
by_axis :
    (seen_up_to text (inf ++ huge) 0 0 unseen ≡ unseen) × (seen_up_to text (n1 ++ huge) 0 1 unseen ≡ unseen) × (seen_up_to text (n1 ++ huge) 0 2 unseen ≡ seen true (box_answer 31 31)) × (seen_up_to text (inf ++ huge) 0 2 unseen ≡ seen true (box_answer 30 23))
unfolding all turns
by_axis = (refl, refl, refl, refl)

-- one coordinate more: good, with an offence, after one, and with a Z that is none
by_coordinate :
    (seen_one text (n1 ++ n2) 2 0 unseen ≡ seen true (box_answer 0 0)) × (seen_one text (n1 ++ inf) 2 0 unseen ≡ seen true (box_answer 30 23)) × (seen_one text (huge ++ inf) 2 0 unseen ≡ seen true (box_answer 31 31))
    × (seen_one text (huge ++ inf) 2 0 (seen true (box_answer 30 7)) ≡ seen true (box_answer 30 7)) × (seen_one text (n1 ++ inf ++ bad) 3 0 unseen ≡ seen false (box_answer 30 23)) × (seen_one text (n1 ++ n2 ++ inf) 3 0 unseen ≡ seen true (box_answer 0 0))
    × (seen_one text (bad ++ n2) 2 0 unseen ≡ seen false (box_answer 0 0)) × (seen_one text (n1 ++ bad) 2 0 unseen ≡ seen false (box_answer 0 0)) × (seen_one text (n1 ++ n2) 2 0 (seen false (box_answer 0 0)) ≡ seen false (box_answer 0 0))
unfolding all turns
by_coordinate = (refl, refl, refl, refl, refl, refl, refl, refl, refl)

-- ---- the box around coordinates
-- one axis is widened, and the other stays
axes :
    (widened_axis 0 (neg 7) (pos 7) (box (pos 1) (pos 2) (pos 3) (pos 4)) ≡ box (neg 7) (pos 7) (pos 3) (pos 4)) × (widened_axis 1 (neg 7) (pos 7) (box (pos 1) (pos 2) (pos 3) (pos 4)) ≡ box (pos 1) (pos 2) (neg 7) (pos 7))
    × (widened_axis 0 (pos 2) (pos 1) (box (pos 1) (pos 2) (pos 3) (pos 4)) ≡ box (pos 1) (pos 2) (pos 3) (pos 4))
    × (axis_next 1 (both_sides (pos 0) (pos 9)) (box (pos 1) (pos 2) (pos 3) (pos 4)) ≡ box (pos 1) (pos 2) (pos 0) (pos 9)) × (axis_next 0 (Err Named) (box (pos 1) (pos 2) (pos 3) (pos 4)) ≡ box (pos 1) (pos 2) (pos 3) (pos 4))
    × (axis_next 0 (Err Beyond) (box (pos 1) (pos 2) (pos 3) (pos 4)) ≡ box (pos 1) (pos 2) (pos 3) (pos 4)) × (axis_next 0 (Err NoNumber) (box (pos 1) (pos 2) (pos 3) (pos 4)) ≡ box (pos 1) (pos 2) (pos 3) (pos 4))
unfolding all
axes = (refl, refl, refl, refl, refl, refl, refl)

-- X alone and then Y too, of an XYM coordinate; of two such coordinates; of a node
corners :
    (sided_up_to text (n1 ++ tiny ++ m3) 0 1 nothing ≡ box (pos 10000000) (pos 10000000) (pos 1000000000000000000) (neg 1000000000000000000)) × (sided_up_to text (n1 ++ tiny ++ m3) 0 2 nothing ≡ box (pos 10000000) (pos 10000000) (pos 0) (pos 1))
    × (around_on text (n1 ++ tiny ++ m3 ++ m3 ++ n2 ++ n1) 3 0 2 nothing ≡ box (neg 30000000) (pos 10000000) (pos 0) (pos 20000000)) × (around_on text [] 3 0 0 nothing ≡ nothing)
    × (own_box text (n1 ++ tiny ++ m3 ++ m3 ++ n2 ++ n1) (visited 0 0 above 2 2 2) ≡ box (neg 30000000) (pos 10000000) (pos 0) (pos 20000000))
unfolding all turns
corners = (refl, refl, refl, refl, refl)

-- a node without child rows has ended, and any other stays open
ended :
    (ended_leaf (visited 0 0 above 7 0 0) (pos 0 ∷ pos 3 ∷ pos 4 ∷ pos 5 ∷ pos 6 ∷ []) ≡ pos 1 ∷ pos 3 ∷ pos 4 ∷ pos 5 ∷ pos 6 ∷ []) × (ended_leaf (visited 0 0 above 7 0 1) (pos 0 ∷ pos 3 ∷ pos 4 ∷ pos 5 ∷ pos 6 ∷ []) ≡ pos 0 ∷ pos 3 ∷ pos 4 ∷ pos 5 ∷ pos 6 ∷ [])
unfolding all turns
ended = (refl, refl)

-- a node's own coordinates: a line's two, each of three numbers; a collection has none itself
by_node : (own text (n1 ++ n2 ++ inf ++ n1 ++ nan ++ n2) (visited 0 0 above 2 1 2) ≡ seen true (box_answer 30 27)) × (own text (inf ++ n1) (visited 0 0 above 7 0 1) ≡ unseen) × (own text (n1 ++ n2 ++ bad) (visited 0 1 above 1 0 1) ≡ seen false (box_answer 0 0))
unfolding all turns
by_node = (refl, refl, refl)

-- all that is met: whether all numbers are some, the first offence, and the table, which held other numbers before
by_walk :
    (good_by text (n1 ++ n2 ++ m3 ++ half) true met ≡ true) × (good_by text (n1 ++ bad ++ m3 ++ half) true met ≡ false) × (good_by text (n1 ++ n2 ++ m3 ++ half) false met ≡ false)
    × (offence_by text (n1 ++ n2 ++ m3 ++ half) fine met ≡ fine) × (offence_by text (n1 ++ huge ++ inf ++ half) fine met ≡ box_answer 31 31) × (offence_by text (n1 ++ n2 ++ m3 ++ nan) fine met ≡ box_answer 30 27)
unfolding all turns
by_walk = (refl, refl, refl, refl, refl, refl)

by_table :
    table_by text (n1 ++ n2 ++ m3 ++ half) (pos 9 ∷ neg 9 ∷ pos 9 ∷ pos 9 ∷ pos 9 ∷ pos 9 ∷ pos 9 ∷ pos 9 ∷ pos 9 ∷ pos 9 ∷ pos 9 ∷ pos 9 ∷ pos 9 ∷ pos 9 ∷ pos 9 ∷ pos 9 ∷ []) met
    ≡ (pos 1 ∷ neg 30000000 ∷ pos 10000000 ∷ neg 5000000 ∷ pos 20000000 ∷ []) ++ (pos 1 ∷ pos 10000000 ∷ pos 10000000 ∷ pos 20000000 ∷ pos 20000000 ∷ []) ++ (pos 1 ∷ neg 30000000 ∷ neg 30000000 ∷ neg 5000000 ∷ neg 5000000 ∷ []) ++ (pos 9 ∷ [])
unfolding all turns
by_table = refl

-- 22 before them
verdicts : (verdict true (box_answer 30 7) ≡ box_answer 30 7) × (verdict false (box_answer 30 7) ≡ box_answer 22 0) × (verdict true fine ≡ box_answer 0 0)
verdicts = (refl, refl, refl)
