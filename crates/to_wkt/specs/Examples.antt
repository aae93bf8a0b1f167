-- Worked examples of this crate's definitions, by computation.
use Rattle.std.specs.Prelude.{◌≡◌, refl, ℕ}
use Rattle.std.proofs.Math.Option.{Option, none, some}
use mathlib.Core.List.{List, [], ◌∷◌, ◌++◌, flat_map}
use Rattle.kinds.specs.Kinds.{width}
use Rattle.scan.specs.Text.{bytes}
use Rattle.scan.specs.Front.{begins, after_one, after_all, is_nil}
use Rattle.words.specs.Words.{same_word}
use Rattle.lists.specs.Lists.{every}
use Rattle.number.specs.Lexeme.{is_named, is_digits, is_exponent, is_decimal, is_unsigned, is_lexeme}
use Rattle.store.specs.Answers.{wrote, not_written, write_answer, room_after}
use Rattle.store.specs.Rows.{Row, node_over, cell, firsts, rows_in, spans_in, flat_rows}
use Rattle.tree.specs.Tree.{rows_with}
use Rattle.tree.specs.TreeIn.{on_front, as_a, times, find_text, find_row, exactly_one, at_most_one, find_parts, find_node, whole}
use Rattle.names.specs.Names.{string_of}
use Rattle.canonical_text.specs.Canonical.{spell, each, separated, put_parts, put_named, put_dimension, put_with}
use Rattle.lists.specs.Options.{map_o}
use Rattle.nodes.specs.Nodes.{is_allowed, child_kind}
use Rattle.shape.specs.Numbers.{text_at, are_numbers}
use Rattle.shape.specs.Store.{are_whole, tree_of, walk_of}
use Rattle.shape.specs.Visits.{walk_each, walk_parts}
use Rattle.pieces.specs.Canonical.{put_number, put_name, put_comma, put_head}
use Rattle.to_wkt.specs.Canonical.{store_text, put_spaced, put_coordinate, put_listed, put_coordinates, put_body, put_node, put_met, put_all}
use Rattle.to_wkt.specs.Write.{output_of}

-- `POINT(++4 +-4)` as it is read: its spans are 7,2 and 11,2
read : List ℕ
read = bytes "POINT(++4 +-4)"

spans : List ℕ
spans = 7 ∷ 2 ∷ 11 ∷ 2 ∷ []

-- a node with no rows under it
leaf : ℕ → ℕ → ℕ → List Row
leaf k d n = node_over k d n []

point : List Row
point = leaf 1 0 1

-- a multipolygon of a polygon with a ring and of an empty one
polygons : List Row
polygons = node_over 6 0 2 (node_over 3 0 1 (leaf 2 0 1) ++ leaf 3 0 0)

-- `1` and `2` of this text
digits : List ℕ
digits = bytes "12"

n12 : List ℕ
n12 = 0 ∷ 1 ∷ 1 ∷ 1 ∷ []

-- `inf` and `2` of `inf2`
n32 : List ℕ
n32 = 0 ∷ 3 ∷ 3 ∷ 1 ∷ []

of : List Row → List ℕ → Option (List ℕ)
of rows numbers = store_text digits (flat_rows rows) numbers

all : ℕ
unfolding read spans leaf point polygons digits n12 of flat_rows begins after_one after_all is_nil same_word is_named is_digits is_exponent is_decimal is_unsigned is_lexeme every cell firsts rows_in spans_in width on_front as_a times find_text find_row exactly_one at_most_one find_parts find_node whole spell each separated put_parts put_named put_dimension string_of put_with is_allowed child_kind text_at are_numbers are_whole tree_of walk_of walk_each walk_parts flat_map rows_with store_text put_number put_spaced put_coordinate put_listed put_coordinates put_name put_comma put_head put_body put_node put_met put_all
all = 0

-- the kept number text `+4` gets its second plus back, `-4` none
plused : store_text read (flat_rows point) spans ≡ some (bytes "POINT(++4 -4)")
unfolding all
plused = refl

-- a letter gets a plus, or it would be read as a word
letters : store_text (bytes "inf NaN -inf") (flat_rows (leaf 1 1 1)) (0 ∷ 3 ∷ 4 ∷ 3 ∷ 8 ∷ 4 ∷ []) ≡ some (bytes "POINT Z(+inf +NaN -inf)")
unfolding all
letters = refl

-- each kind and each dimension
point_m : of (leaf 1 2 1) (n12 ++ 0 ∷ 1 ∷ []) ≡ some (bytes "POINT M(1 2 1)")
unfolding all
point_m = refl

line : of (leaf 2 0 2) (n12 ++ n12) ≡ some (bytes "LINESTRING(1 2,1 2)")
unfolding all
line = refl

polygon : of (node_over 3 0 2 (leaf 2 0 1 ++ leaf 2 0 0)) n12 ≡ some (bytes "POLYGON((1 2),EMPTY)")
unfolding all
polygon = refl

multipoint : of (node_over 4 3 1 (leaf 1 3 1)) (n12 ++ n12) ≡ some (bytes "MULTIPOINT ZM((1 2 1 2))")
unfolding all
multipoint = refl

multiline : of (node_over 5 0 1 (leaf 2 0 1)) n12 ≡ some (bytes "MULTILINESTRING((1 2))")
unfolding all
multiline = refl

multipolygon : of polygons n12 ≡ some (bytes "MULTIPOLYGON(((1 2)),EMPTY)")
unfolding all
multipolygon = refl

collection : of (node_over 7 1 3 (node_over 7 0 1 (leaf 1 0 0) ++ leaf 1 0 1 ++ leaf 7 3 0)) n12 ≡ some (bytes "GEOMETRYCOLLECTION Z(GEOMETRYCOLLECTION(POINT EMPTY),POINT(1 2),GEOMETRYCOLLECTION ZM EMPTY)")
unfolding all
collection = refl

-- put thing by thing as a walk meets them, it is the same text
by_walk : map_o (λ ms. put_all digits n12 ms []) (walk_of digits (flat_rows polygons) n12) ≡ some (bytes "MULTIPOLYGON(((1 2)),EMPTY)")
unfolding all
by_walk = refl

-- by a walk too an EMPTY geometry in a collection has its name and a space before it, and a letter its plus
by_walk_named : map_o (λ ms. put_all (bytes "inf2") n32 ms []) (walk_of (bytes "inf2") (flat_rows (node_over 7 0 2 (leaf 2 1 0 ++ leaf 1 0 1))) n32) ≡ some (bytes "GEOMETRYCOLLECTION(LINESTRING Z EMPTY,POINT(+inf 2))")
unfolding all n32
by_walk_named = refl

-- a number lacks
ill : of point (0 ∷ 1 ∷ []) ≡ none
unfolding all
ill = refl

-- the answer and the room: ill formed; a text of three bytes in a room of four, of three and of two
abc : Option (List ℕ)
abc = some (bytes "abc")

answers : (write_answer (output_of none) 2 ≡ not_written 22) × (write_answer (output_of abc) 4 ≡ wrote 3) × (write_answer (output_of abc) 3 ≡ wrote 3) × (write_answer (output_of abc) 2 ≡ not_written 23)
unfolding abc
answers = (refl, refl, refl, refl)

rooms : (room_after (output_of none) 2 ≡ 0 ∷ 0 ∷ []) × (room_after (output_of abc) 4 ≡ 97 ∷ 98 ∷ 99 ∷ 0 ∷ []) × (room_after (output_of abc) 3 ≡ bytes "abc") × (room_after (output_of abc) 2 ≡ 0 ∷ 0 ∷ [])
unfolding abc
rooms = (refl, refl, refl, refl)
