-- The premises of request 2026-03's theorems are met, by computation: calls of the boxes that are not refused, of one shape spelt in two ways, with the tree that the store is;
-- and each refusal.
use Rattle.std.specs.Prelude.{◌≡◌, refl, ℕ, ℤ, pos, neg_ℤ, get_or, replicate}
use mathlib.Core.List.{List, [], ◌∷◌, ◌++◌, flat_map}
use Rattle.std.proofs.Math.Option.{some}
use Rattle.limits.specs.Limits.{depth_limit}
use Rattle.lists.specs.Lists.{every}
use Rattle.scan.specs.Text as text
use Rattle.scan.specs.Front.{begins, after_one, after_all, is_nil}
use Rattle.words.specs.Words.{same_word}
use Rattle.kinds.specs.Kinds.{width}
use Rattle.number.specs.Lexeme.{is_named, is_digits, is_exponent, is_decimal, is_unsigned, is_lexeme}
use Rattle.store.specs.Rows.{cell, firsts, rows_in, spans_in}
use Rattle.tree.specs.Tree.{Coord, Tree, point_n, collection_n, rows_with}
use Rattle.tree.specs.TreeIn.{on_front, as_a, times, find_text, find_row, exactly_one, at_most_one, find_parts, find_node, whole}
use Rattle.shape.specs.Numbers.{are_numbers}
use Rattle.shape.specs.Store.{are_whole, tree_of}
use Rattle.decimal.specs.Decimal.{leading, read_on, written, alike}
use Rattle.decimal.specs.Units.{whole_units, is_left, low, high, is_large}
use Rattle.decimal.specs.Reckon.{sides_of, reckoned}
use Rattle.bounds.specs.Bounds.{box_answer, zeros}
use Rattle.node_boxes.specs.Boxes.{lowest, highest, box_around, nest_boxes, first_offence, boxes_of}
use Rattle.node_boxes.specs.Holds.{spelt, AlikeEach, nest_own, each_coords}
use Rattle.demands.specs.Boxes.{NodeBoxes}

-- `GEOMETRYCOLLECTION(POINT(1e1 -0.5),POINT EMPTY)` and `GEOMETRYCOLLECTION(POINT(10.0 -5e-1),POINT EMPTY)`: their numbers, and their rows
one : List ℕ
one = text.bytes "1e1 -0.5"

other : List ℕ
other = text.bytes "10.0 -5e-1"

nodes : List ℕ
nodes = 7 ∷ 0 ∷ 2 ∷ 1 ∷ 0 ∷ 1 ∷ 1 ∷ 0 ∷ 0 ∷ []

-- their trees: a point, and one without coordinates
shape : Coord → Tree depth_limit
shape c = collection_n 0 (point_n 0 (c ∷ []) ∷ point_n 0 [] ∷ [])

-- a table with one place more than it needs, and what is left in it
ones : List ℤ
ones = replicate 16 (neg_ℤ (pos 1))

row_of_both : List ℤ
row_of_both = pos 1 ∷ pos 100000000 ∷ pos 100000000 ∷ neg_ℤ (pos 5000000) ∷ neg_ℤ (pos 5000000) ∷ []

all : ℕ
unfolding one other nodes shape ones row_of_both flat_map every begins after_one after_all is_nil same_word is_named is_digits is_exponent is_decimal is_unsigned is_lexeme width cell firsts rows_in spans_in rows_with on_front as_a times find_text find_row exactly_one at_most_one find_parts find_node whole are_numbers are_whole tree_of leading read_on written whole_units is_left low high is_large sides_of reckoned lowest highest box_around nest_boxes first_offence boxes_of nest_own AlikeEach
all = 0

-- neither is refused: a node without coordinates has zeros, and so have unused places
boxed : NodeBoxes one nodes (0 ∷ 3 ∷ 4 ∷ 4 ∷ []) ones (box_answer 0 0) (row_of_both ++ row_of_both ++ zeros 6)
    × NodeBoxes other nodes (0 ∷ 4 ∷ 5 ∷ 5 ∷ []) ones (box_answer 0 0) (row_of_both ++ row_of_both ++ zeros 6)
unfolding all
boxed = (record { answer = refl; table = refl }, record { answer = refl; table = refl })

-- the stores are these trees
trees : (tree_of one nodes (0 ∷ 3 ∷ 4 ∷ 4 ∷ []) ≡ some (shape (text.bytes "1e1" ∷ text.bytes "-0.5" ∷ [])))
    × (tree_of other nodes (0 ∷ 4 ∷ 5 ∷ 5 ∷ []) ≡ some (shape (text.bytes "10.0" ∷ text.bytes "-5e-1" ∷ [])))
unfolding all
trees = (refl, refl)

-- the coordinates of node 1, and of the collection around it, are equal decimals spelt otherwise
same : AlikeEach (get_or (each_coords depth_limit (shape (text.bytes "1e1" ∷ text.bytes "-0.5" ∷ []))) 1 []) (get_or (each_coords depth_limit (shape (text.bytes "10.0" ∷ text.bytes "-5e-1" ∷ []))) 1 [])
    × AlikeEach (get_or (each_coords depth_limit (shape (text.bytes "1e1" ∷ text.bytes "-0.5" ∷ []))) 0 []) (get_or (each_coords depth_limit (shape (text.bytes "10.0" ∷ text.bytes "-5e-1" ∷ []))) 0 [])
unfolding all
same =
    let x = spelt (record { lexeme = refl; no_word = refl; near = refl }) (record { lexeme = refl; no_word = refl; near = refl }) (alike refl refl) in
    let y = spelt (record { lexeme = refl; no_word = refl; near = refl }) (record { lexeme = refl; no_word = refl; near = refl }) (alike refl refl) in
    ((record { x = x; y = y }, tt), (record { x = x; y = y }, tt))

-- each refusal leaves zeros: a Y that is no number, two rows for three nodes, an X that is `inf` and a Y that is too large
refusals : NodeBoxes (text.bytes "1 x") (1 ∷ 0 ∷ 1 ∷ []) (0 ∷ 1 ∷ 2 ∷ 1 ∷ []) (pos 7 ∷ pos 7 ∷ []) (box_answer 22 0) (zeros 2)
    × NodeBoxes one nodes (0 ∷ 3 ∷ 4 ∷ 4 ∷ []) (replicate 14 (pos 7)) (box_answer 23 0) (zeros 14)
    × NodeBoxes (text.bytes "1 inf") (1 ∷ 0 ∷ 1 ∷ []) (2 ∷ 3 ∷ 0 ∷ 1 ∷ []) (replicate 5 (pos 7)) (box_answer 30 2) (zeros 5)
    × NodeBoxes (text.bytes "1 1e11") (1 ∷ 0 ∷ 1 ∷ []) (0 ∷ 1 ∷ 2 ∷ 4 ∷ []) (replicate 5 (pos 7)) (box_answer 31 2) (zeros 5)
unfolding all
refusals = (record { answer = refl; table = refl }, record { answer = refl; table = refl }, record { answer = refl; table = refl }, record { answer = refl; table = refl })
