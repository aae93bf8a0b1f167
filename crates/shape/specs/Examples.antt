-- Worked examples of this crate's definitions, by computation: a well-formed store of each sort, and each clause of the definition broken by itself.
use Rattle.std.specs.Prelude.{◌≡◌, refl, Bool, true, false, ℕ}
use Rattle.std.proofs.Math.Option.{some}
use mathlib.Core.List.{List, [], ◌∷◌, ◌++◌, flat_map}
use Rattle.kinds.specs.Kinds.{width}
use Rattle.scan.specs.Text.{bytes}
use Rattle.scan.specs.Front.{begins, after_one, after_all, is_nil}
use Rattle.words.specs.Words.{same_word}
use Rattle.lists.specs.Lists.{every}
use Rattle.number.specs.Lexeme.{is_named, is_digits, is_exponent, is_decimal, is_unsigned, is_lexeme}
use Rattle.store.specs.Rows.{Row, node_row, node_over, cell, firsts, rows_in, spans_in, flat_rows}
use Rattle.tree.specs.Tree.{rows_with}
use Rattle.tree.specs.TreeIn.{on_front, as_a, times, find_text, find_row, exactly_one, at_most_one, find_parts, find_node, whole}
use Rattle.nodes.specs.declared.Frame.{Frame}
use Rattle.nodes.specs.declared.Visit.{Visit}
use Rattle.nodes.specs.declared.Met.TheVariants.{Node, End}
use Rattle.nodes.specs.Nodes.{frame, above, visit_of, node_end, node_ends, still_open, at_last, is_allowed, child_kind, numbers_of, meets_node, meets_rows, meets}
use Rattle.nodes.specs.Examples.{leaf, nest, point, empty_point, store}
use Rattle.shape.specs.Visits.{walk_each, walk_parts}
use Rattle.shape.specs.Numbers.{are_numbers}
use Rattle.shape.specs.Store.{are_whole, tree_of, walk_of, well_formed}

-- the numbers `1`, `2` and `-3`, and `x`, which is none
text : List ℕ
text = bytes "1 2 -3 x"

-- spans of `1` and `2`
coordinate : List ℕ
coordinate = 0 ∷ 1 ∷ 2 ∷ 1 ∷ []

is_good : List Row → List ℕ → Bool
is_good rows numbers = well_formed text (flat_rows rows) numbers

-- a node in its place, by the kind, dimension and parts of its row
visited : ℕ → ℕ → Frame → ℕ → ℕ → ℕ → Visit
visited i j f k d n = visit_of i j f (node_row k d n [])

all : ℕ
unfolding text coordinate is_good leaf nest point empty_point visited flat_rows begins after_one after_all is_nil same_word is_named is_digits is_exponent is_decimal is_unsigned is_lexeme every cell firsts rows_in spans_in width flat_map rows_with on_front as_a times find_text find_row exactly_one at_most_one find_parts find_node whole walk_each walk_parts numbers_of child_kind is_allowed node_end node_ends still_open at_last meets_node meets_rows meets are_numbers are_whole tree_of walk_of well_formed
all = 0

-- `POINT(1 2)`, `POINT EMPTY`, `MULTIPOINT((1 2))`, `MULTIPOLYGON(((1 2)))`
single : (is_good point coordinate ≡ true) × (is_good empty_point [] ≡ true) × (is_good (node_over 4 0 1 point) coordinate ≡ true) × (is_good (node_over 6 0 1 (node_over 3 0 1 (leaf 2 0 1))) coordinate ≡ true)
unfolding all
single = (refl, refl, refl, refl)

-- `GEOMETRYCOLLECTION Z(POINT(1 2))`: a collection's children need not have its dimension
mixed : is_good (node_over 7 1 1 point) coordinate ≡ true
unfolding all
mixed = refl

-- the nodes of `GEOMETRYCOLLECTION(MULTIPOINT((1 2)),POINT EMPTY)` in their places: the multipoint ends after its point, having taken 2 rows, and the
-- collection after its second child, having taken 4
places :
    walk_of text (flat_rows store) coordinate
    ≡ some
    (Node (visited 0 0 above 7 0 2)
    ∷ Node (visited 1 0 (frame 0 7 0 1 2 0) 4 0 1)
    ∷ Node (visited 2 0 (frame 1 4 0 1 1 0) 1 0 1)
    ∷ End 1 2
    ∷ Node (visited 3 2 (frame 0 7 0 1 2 1) 1 0 0)
    ∷ End 0 4
    ∷ [])
unfolding all store
places = refl

-- the rows by themselves, met one after the other, come to the same
by_rows : meets 2 (above ∷ []) 0 0 store ≡ walk_of text (flat_rows store) coordinate
unfolding all store
by_rows = refl

-- "exactly one preorder tree": no row, two trees, a child lacking, a child too many
tree : (is_good [] [] ≡ false) × (is_good (empty_point ++ empty_point) [] ≡ false) × (is_good (leaf 7 0 1) [] ≡ false) × (is_good (node_over 7 0 1 (empty_point ++ empty_point)) [] ≡ false)
unfolding all
tree = (refl, refl, refl, refl)

-- "kinds and dimensions as above": kind 0, kind 8, dimension 4
known : (is_good (leaf 0 0 0) [] ≡ false) × (is_good (leaf 8 0 0) [] ≡ false) × (is_good (leaf 1 4 0) [] ≡ false)
unfolding all
known = (refl, refl, refl)

-- "children of the kinds named": a point in a polygon, a line string in a multipoint; "of the parent's dimension": an XYZ ring in an XY polygon
children : (is_good (node_over 3 0 1 empty_point) [] ≡ false) × (is_good (node_over 4 0 1 (leaf 2 0 1)) coordinate ≡ false) × (is_good (node_over 3 0 1 (leaf 2 1 0)) [] ≡ false)
unfolding all
children = (refl, refl, refl)

-- "a point has at most 1 part, a multipoint's points exactly 1"
parts : (is_good (leaf 1 0 2) (coordinate ++ coordinate) ≡ false) × (is_good (node_over 4 0 1 empty_point) [] ≡ false)
unfolding all
parts = (refl, refl)

-- "at most 32 non-empty collections lie on a path": an empty one may lie in the 32nd
deep : (is_good (nest 32 (leaf 7 0 0)) [] ≡ true) × (is_good (nest 33 (leaf 7 0 0)) [] ≡ false)
unfolding all
deep = (refl, refl)

-- "the numbers are exactly as many as needed": one too few, one too many
count : (is_good point (0 ∷ 1 ∷ []) ≡ false) × (is_good point (coordinate ++ 4 ∷ 2 ∷ []) ≡ false)
unfolding all
count = (refl, refl)

-- "each lies in its text and is a lexeme": `-3`, `x`, nothing, and a span that ends one past the text
texts : (is_good point (0 ∷ 1 ∷ 4 ∷ 2 ∷ []) ≡ true) × (is_good point (0 ∷ 1 ∷ 7 ∷ 1 ∷ []) ≡ false) × (is_good point (0 ∷ 1 ∷ 0 ∷ 0 ∷ []) ≡ false) × (well_formed (bytes "1 2") (flat_rows point) (0 ∷ 1 ∷ 2 ∷ 2 ∷ []) ≡ false)
unfolding all
texts = (refl, refl, refl, refl)

-- "a slice length not divisible by 3 or 2 is ill formed"
ragged : (well_formed text (flat_rows point ++ 0 ∷ []) coordinate ≡ false) × (is_good point (coordinate ++ 0 ∷ []) ≡ false)
unfolding all
ragged = (refl, refl)
