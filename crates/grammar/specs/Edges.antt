-- "Inputs at the edges" (document 01) as one table: a room for nodes and one for numbers, a text, and what reading it comes to,
-- or how what was read is written again.
-- `every_edge` computes them all. The rows marked * there come first, and the one that is written comes last; those between are others of that list and of its kind.
use Rattle.std.specs.Prelude.{◌≡◌, refl, ℕ, zero, suc}
use Rattle.std.proofs.Math.Option.{some, map}
use mathlib.Core.List.{List, [], ◌∷◌, ◌++◌, flat_map}
use Rattle.scan.specs.Text.{bytes}
use Rattle.scan.specs.Front.{begins, after_one, after_all, is_nil}
use Rattle.words.specs.Words.{same_word}
use Rattle.number.specs.Lexeme.{is_named, is_digits, is_exponent, is_decimal, is_unsigned, is_lexeme}
use Rattle.kinds.specs.Kinds.{kind_point, kind_line_string, kind_polygon, kind_multi_point, kind_multi_line_string, kind_multi_polygon, kind_geometry_collection, dim_xy, dim_xyz, dim_xym, dim_xyzm}
use Rattle.lists.specs.Lists.{every}
use Rattle.names.specs.Names.{string_of, spellings, lookup, meaning, ending}
use Rattle.store.specs.Rows.{Row, node_over, Span, span, close_in}
use Rattle.token.specs.Examples.{all_bad}
use Rattle.token_stream.specs.Lex.{mark_tk, number_token, run_tk, flush, push, lex_byte, lex_run, lex}
use Rattle.utf8.specs.Utf8.{table, fits, first_fit, char_width, walk, first_ill}
use Rattle.grammar.specs.Asks.{bind, run}
use Rattle.grammar.specs.Grammar.{Got, ok, refused, halt, out, refusal, and_then, items, closing, number, then_number, if_asked, coord, point_body, opened, opening, opener, header, child_head, root_head, line_body, parens, line_in, line_of, lines_body, polygon_in, polygon_of, polygons_body, point_in, bare_point, point_of, points_body, multi, simple, geometry_by, child_of, collection, geometry, root}
use Rattle.grammar.specs.Reading.{reading, tree_read}
use Rattle.kinds.specs.Kinds as kinds
use Rattle.tree.specs.TreeIn as tree
use Rattle.canonical_text.specs.Canonical as canonical
use Rattle.canonical_text.specs.Canonical.{canonical_text}
use Rattle.lists.specs.Lists.{All}

pub data Edge : Type 0 where
  reads : ℕ → ℕ → List ℕ → Got → Edge
  -- a text that is accepted, and the canonical text of the tree that it is read to
  writes : ℕ → ℕ → List ℕ → List ℕ → Edge

abbrev pub Holds : Edge → Type 0
Holds (reads N M text g) = reading N M text ≡ g
Holds (writes N M text b) = map canonical_text (tree_read (reading N M text)) ≡ some b

abbrev pub repeated : {A : Type 0} → ℕ → List A → List A
repeated zero xs = []
repeated (suc n) xs = xs ++ repeated n xs

-- 京
abbrev pub kyo : List ℕ
kyo = 0xE4 ∷ 0xBA ∷ 0xAC ∷ []

abbrev pub nodes : List Row → List Span → Got
nodes rs ss = ok (out rs ss)

-- the row of a node with no rows under it; and collections, each the one child of that before it, over rows
abbrev pub leaf : ℕ → ℕ → ℕ → List Row
leaf k d n = node_over k d n []

abbrev pub nested : ℕ → List Row → List Row
nested zero under = under
nested (suc n) under = node_over kind_geometry_collection dim_xy 1 (nested n under)

-- the rows of a point, and of a multipoint of two points
abbrev pub one_point : List Row
one_point = leaf kind_point dim_xy 1

abbrev pub two_points : List Row
two_points = node_over kind_multi_point dim_xy 2 (one_point ++ one_point)

unfoldable pub edges : List Edge
edges =
    reads 40 9 [] (refused (refusal 8 0))
    ∷ reads 40 9 (bytes "POINT") (refused (refusal 10 5))
    ∷ reads 40 9 (bytes "POINT 4x") (refused (refusal 10 6))
    ∷ reads 40 9 (bytes "POINT(x 2)") (refused (refusal 13 8))
    ∷ reads 40 9 (bytes "POINT(1 x)") (refused (refusal 15 8))
    ∷ reads 40 9 (bytes "POINT(+ 5)") (refused (refusal 13 8))
    ∷ reads 40 9 (bytes "POINT(1 \0)") (refused (refusal 15 8))
    ∷ reads 40 9 (bytes "POINT(1 ") (refused (refusal 13 8))
    ∷ reads 40 9 (bytes "POINT(++4 +-4)") (nodes one_point (span 7 2 (bytes "+4") ∷ span 11 2 (bytes "-4") ∷ []))
    ∷ reads 40 9 (bytes "MULTIPOINT((1 2),3 4)")
    (nodes two_points (span 12 1 (bytes "1") ∷ span 14 1 (bytes "2") ∷ span 17 1 (bytes "3") ∷ span 19 1 (bytes "4") ∷ []))
    ∷ reads 40 9 (bytes "POINTZ Z(1 2 3)") (refused (refusal 12 7))
    ∷ reads 40 9 (bytes "GEOMETRYCOLLECTION Z(POINT(1 2))")
    (nodes (node_over kind_geometry_collection dim_xyz 1 one_point) (span 27 1 (bytes "1") ∷ span 29 1 (bytes "2") ∷ []))
    ∷ reads 40 9 (bytes "MULTIPOINT(1 2,EMPTY)") (refused (refusal 14 15))
    ∷ reads 40 9 (bytes "LINEARRINGZ(1 2 3)") (refused (refusal 9 0))
    ∷ reads 40 9 (bytes "LINEARRING Z(1 2 3)") (nodes (leaf kind_line_string dim_xyz 1) (span 13 1 (bytes "1") ∷ span 15 1 (bytes "2") ∷ span 17 1 (bytes "3") ∷ []))
    ∷ reads 40 9 (bytes "GEOMETRYCOLLECTION(" ++ kyo ++ bytes ")") (refused (refusal 9 19))
    ∷ reads 40 9 (bytes "GEOMETRYCOLLECTION(" ++ kyo ++ bytes "(1 2))") (refused (refusal 13 22))
    ∷ reads 40 9 (repeated 32 (bytes "GEOMETRYCOLLECTION(") ++ bytes "POINT EMPTY" ++ repeated 32 (bytes ")"))
    (nodes (nested 32 (leaf kind_point dim_xy 0)) [])
    ∷ reads 40 9 (repeated 33 (bytes "GEOMETRYCOLLECTION(")) (halt (refusal 5 626))
    ∷ reads 32 9 (repeated 33 (bytes "GEOMETRYCOLLECTION(")) (halt (refusal 5 626))
    ∷ reads 0 9 (bytes "POINT(1 2)") (halt (refusal 3 5))
    ∷ reads 40 1 (bytes "POINT(1 2)") (halt (refusal 4 8))
    ∷ reads 1 9 (bytes "MULTIPOINT()") (halt (refusal 3 11))
    ∷ reads 40 9 (bytes "polygon((1 2,-inf +nan),empty)")
    (nodes (node_over kind_polygon dim_xy 2 (leaf kind_line_string dim_xy 2 ++ leaf kind_line_string dim_xy 0)) (span 9 1 (bytes "1") ∷ span 11 1 (bytes "2") ∷ span 13 4 (bytes "-inf") ∷ span 19 3 (bytes "nan") ∷ []))
    ∷ reads 40 9 (bytes "MULTILINESTRING M((1 2 3),EMPTY)")
    (nodes (node_over kind_multi_line_string dim_xym 2 (leaf kind_line_string dim_xym 1 ++ leaf kind_line_string dim_xym 0)) (span 19 1 (bytes "1") ∷ span 21 1 (bytes "2") ∷ span 23 1 (bytes "3") ∷ []))
    ∷ reads 40 9 (bytes "MULTIPOLYGON ZM(((1 2 3 4)),EMPTY)")
    (nodes (node_over kind_multi_polygon dim_xyzm 2 (node_over kind_polygon dim_xyzm 1 (leaf kind_line_string dim_xyzm 1) ++ leaf kind_polygon dim_xyzm 0)) (span 18 1 (bytes "1") ∷ span 20 1 (bytes "2") ∷ span 22 1 (bytes "3") ∷ span 24 1 (bytes "4") ∷ []))
    ∷ reads 40 9 (kyo ++ bytes "(1 2)") (refused (refusal 7 0))
    ∷ reads 40 9 (bytes "+x(1 2)") (refused (refusal 29 1))
    ∷ reads 40 9 (0xE4 ∷ 0xBA ∷ []) (refused (refusal 2 0))
    ∷ reads 40 9 (bytes "GEOMETRYCOLLECTION(1)") (refused (refusal 18 19))
    ∷ reads 40 9 (bytes "POINT foo(1 2)") (refused (refusal 11 6))
    ∷ reads 40 9 (bytes "GEOMETRYCOLLECTION(POINT foo)") (refused (refusal 13 25))
    ∷ reads 40 9 (bytes "GEOMETRYCOLLECTION(POINT 4x)") (refused (refusal 29 26))
    ∷ reads 40 9 (bytes "GEOMETRYCOLLECTION(POINT \0)") (refused (refusal 13 25))
    ∷ reads 40 9 (bytes "GEOMETRYCOLLECTION(POINTZ \0)") (refused (refusal 12 26))
    ∷ reads 40 9 (bytes "POINT Z(1 2 x)") (refused (refusal 16 12))
    ∷ reads 40 9 (bytes "POINT ZM(1 2 3)") (refused (refusal 13 15))
    ∷ reads 40 9 (bytes "POINT ZM(1 2 3 x)") (refused (refusal 17 15))
    ∷ reads 40 9 (bytes "POINT\0(1 2)") (refused (refusal 10 5))
    ∷ reads 40 9 (bytes "POINT Z\0(1 2 3)") (refused (refusal 12 7))
    ∷ reads 40 9 (repeated 65536 (bytes " ")) (refused (refusal 8 65536))
    ∷ writes 40 9 (bytes "POINT(++4 +-4)") (bytes "POINT(++4 -4)")
    ∷ []

-- all that a reading computes with
unfoldable pub all : ℕ
unfolding all_bad begins after_one after_all is_nil same_word is_named is_digits is_exponent is_decimal is_unsigned is_lexeme every flat_map spellings lookup meaning ending close_in mark_tk number_token run_tk flush push lex_byte lex_run lex table fits first_fit char_width walk first_ill bind run and_then items closing number then_number if_asked coord point_body opened opening opener header child_head root_head line_body parens line_in line_of lines_body polygon_in polygon_of polygons_body point_in bare_point point_of points_body multi simple geometry_by child_of collection geometry root reading All
all = 0

-- and what its writing again does besides
all_written : ℕ
unfolding kinds.width tree.on_front tree.as_a tree.times tree.find_text tree.find_row tree.exactly_one tree.at_most_one tree.find_parts tree.find_node tree.whole canonical.spell canonical.each canonical.separated canonical.put_parts canonical.put_named canonical.put_dimension string_of canonical.put_with
all_written = 0

pub every_edge : All Holds edges
unfolding all all_written edges
every_edge =
    (refl, (refl, (refl, (refl, (refl, (refl, (refl, (refl, (refl, (refl, (refl, (refl, (refl, (refl, (refl, (refl, (refl, (refl, (refl, (refl, (refl, (refl, (refl, (refl, (refl, (refl, (refl, (refl, (refl, (refl, (refl, (refl, (refl, (refl, (refl, (refl, (refl, (refl, (refl, (refl, (refl, (refl, tt))))))))))))))))))))))))))))))))))))))))))
