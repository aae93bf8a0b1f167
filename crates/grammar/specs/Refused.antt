-- Each refusal of the reader at each step that gives it and with each sort of token, as a table of the same form as `Edges`:
-- `every_refusal` computes it. So no number can move to another step, token or order, though definition and code moved together.
use Rattle.std.specs.Prelude.{◌≡◌, refl, true, ℕ, length, replicate}
use mathlib.Core.List.{List, [], ◌∷◌, ◌++◌, flat_map}
use Rattle.scan.specs.Text.{bytes}
use Rattle.scan.specs.Front.{begins, after_one, after_all, is_nil}
use Rattle.words.specs.Words.{same_word}
use Rattle.number.specs.Lexeme.{is_named, is_digits, is_exponent, is_decimal, is_unsigned, is_lexeme}
use Rattle.kinds.specs.Kinds.{kind_point, kind_geometry_collection, dim_xy}
use Rattle.lists.specs.Lists.{every, All}
use Rattle.limits.specs.Limits.{over_limit}
use Rattle.names.specs.Names.{spellings, lookup, meaning, ending}
use Rattle.store.specs.Rows.{node_over, span, close_in}
use Rattle.token.specs.Examples.{all_bad}
use Rattle.token_stream.specs.Lex.{mark_tk, number_token, run_tk, flush, push, lex_byte, lex_run, lex}
use Rattle.utf8.specs.Utf8.{table, fits, first_fit, char_width, walk, first_ill}
use Rattle.grammar.specs.Asks.{bind, run}
use Rattle.grammar.specs.Grammar.{refused, halt, refusal, and_then, items, closing, number, then_number, if_asked, coord, point_body, opened, opening, opener, header, child_head, root_head, line_body, parens, line_in, line_of, lines_body, polygon_in, polygon_of, polygons_body, point_in, bare_point, point_of, points_body, multi, simple, geometry_by, child_of, collection, geometry, root}
use Rattle.grammar.specs.Reading.{reading}
use Rattle.grammar.specs.Edges.{Edge, reads, Holds, repeated, kyo, nodes, leaf, nested, one_point}

-- 🌍
abbrev pub earth : List ℕ
earth = 0xF0 ∷ 0x9F ∷ 0x8C ∷ 0x8D ∷ []

-- a refusal's number, and its place
recorded : refusal 13 8 ≡ record { number = 13; place = 8 }
recorded = refl

unfoldable pub refusals : List Edge
refusals =
    -- 8 and 29 at the root: no token, each mark, a number; a bad number
    reads 40 40 (bytes " ") (refused (refusal 8 1))
    ∷ reads 40 40 (bytes "\0POINT(1 2)") (refused (refusal 8 0))
    ∷ reads 40 40 (bytes "(1 2)") (refused (refusal 8 0))
    ∷ reads 40 40 (bytes ")") (refused (refusal 8 0))
    ∷ reads 40 40 (bytes ",") (refused (refusal 8 0))
    ∷ reads 40 40 (bytes " 1") (refused (refusal 8 1))
    ∷ reads 40 40 (bytes "-.") (refused (refusal 29 2))
    -- 7, and 9 for words of ASCII: a name with a byte more, `MZ` joined, LINEARRING with each ending
    ∷ reads 40 40 (bytes "POINT" ++ kyo) (refused (refusal 7 0))
    ∷ reads 40 40 (bytes " POINTS(1 2)") (refused (refusal 9 1))
    ∷ reads 40 40 (bytes "POINTMZ(1 2 3 4)") (refused (refusal 9 0))
    ∷ reads 40 40 (bytes "LINEARRINGM(1 2 3)") (refused (refusal 9 0))
    ∷ reads 40 40 (bytes "LINEARRINGZM(1 2 3 4)") (refused (refusal 9 0))
    ∷ reads 40 40 (bytes "EMPTY") (refused (refusal 9 0))
    -- 10 at no token and a bad number, 11 at a word that is no ending
    ∷ reads 40 40 (bytes "POINT \0") (refused (refusal 10 6))
    ∷ reads 40 40 (bytes "POINT ") (refused (refusal 10 6))
    ∷ reads 40 40 (bytes "POINT +x") (refused (refusal 10 6))
    ∷ reads 40 40 (bytes "POINT MZ(1 2 3 4)") (refused (refusal 11 6))
    ∷ reads 40 40 (bytes "POINT Z M(1 2 3 4)") (refused (refusal 12 8))
    ∷ reads 40 40 (bytes "POINT EMPTYZ") (refused (refusal 11 6))
    ∷ reads 40 40 (bytes "POINT POINT") (refused (refusal 11 6))
    ∷ reads 40 40 (bytes "POINT " ++ kyo) (refused (refusal 11 6))
    -- 12 where `(` is to be taken: no token, `)`, a comma, a number, a word; and 29
    ∷ reads 40 40 (bytes "POINTZ") (refused (refusal 12 6))
    ∷ reads 40 40 (bytes "POINTZ \0") (refused (refusal 12 7))
    ∷ reads 40 40 (bytes "POINT)") (refused (refusal 12 5))
    ∷ reads 40 40 (bytes "POINT,") (refused (refusal 12 5))
    ∷ reads 40 40 (bytes "POINT 1") (refused (refusal 12 6))
    ∷ reads 40 40 (bytes "POINTM x") (refused (refusal 12 7))
    ∷ reads 40 40 (bytes "POINTZ 1x") (refused (refusal 29 8))
    ∷ reads 40 40 (bytes "POINT Z 1x") (refused (refusal 29 9))
    ∷ reads 40 40 (bytes "POLYGON(x)") (refused (refusal 12 8))
    ∷ reads 40 40 (bytes "POLYGON(1)") (refused (refusal 12 8))
    ∷ reads 40 40 (bytes "POLYGON(1x)") (refused (refusal 29 9))
    ∷ reads 40 40 (bytes "MULTIPOLYGON((,))") (refused (refusal 12 14))
    -- 13 where `)` is to be taken: no token, `(`, a number, a word; and 29
    ∷ reads 40 40 (bytes "POINT(1 2") (refused (refusal 13 9))
    ∷ reads 40 40 (bytes "POINT(1 2\0)") (refused (refusal 13 9))
    ∷ reads 40 40 (bytes "POINT(1 2(") (refused (refusal 13 9))
    ∷ reads 40 40 (bytes "POINT(1 2 3)") (refused (refusal 13 10))
    ∷ reads 40 40 (bytes "POINT(1 2 x)") (refused (refusal 13 10))
    ∷ reads 40 40 (bytes "POINT(1 2 3x)") (refused (refusal 29 11))
    ∷ reads 40 40 (bytes "POINT(1 2,3 4)") (refused (refusal 13 9))
    ∷ reads 40 40 (bytes "LINESTRING(1 2,3 4 5)") (refused (refusal 13 19))
    -- 14 to 17 at each sort of token, each with `)` taken behind it; and 29
    ∷ reads 40 40 (bytes "POINT(( )") (refused (refusal 14 6))
    ∷ reads 40 40 (bytes "POINT()") (refused (refusal 13 7))
    ∷ reads 40 40 (bytes "POINT(,)") (refused (refusal 14 6))
    ∷ reads 40 40 (bytes "POINT(x)") (refused (refusal 14 6))
    ∷ reads 40 40 (bytes "POINT(1x)") (refused (refusal 29 7))
    ∷ reads 40 40 (bytes "POINT(1()") (refused (refusal 15 7))
    ∷ reads 40 40 (bytes "POINT(1,)") (refused (refusal 15 7))
    ∷ reads 40 40 (bytes "POINT(1 x)") (refused (refusal 15 8))
    ∷ reads 40 40 (bytes "POINT(1 1x)") (refused (refusal 29 9))
    ∷ reads 40 40 (bytes "POINTZ(1 2()") (refused (refusal 16 10))
    ∷ reads 40 40 (bytes "POINTZ(1 2,)") (refused (refusal 16 10))
    ∷ reads 40 40 (bytes "POINTZ(1 2 x)") (refused (refusal 16 11))
    ∷ reads 40 40 (bytes "POINTZ(1 2 1x)") (refused (refusal 29 12))
    ∷ reads 40 40 (bytes "POINTM(1 2 x)") (refused (refusal 17 11))
    ∷ reads 40 40 (bytes "POINTM(1 2 1x)") (refused (refusal 29 12))
    ∷ reads 40 40 (bytes "POINTM(1 2,)") (refused (refusal 17 10))
    ∷ reads 40 40 (bytes "POINTZM(1 2 x)") (refused (refusal 16 12))
    ∷ reads 40 40 (bytes "POINTZM(1 2 3 x)") (refused (refusal 17 14))
    ∷ reads 40 40 (bytes "POINTZM(1 2 3 1x)") (refused (refusal 29 15))
    ∷ reads 40 40 (bytes "POINTZM(1 2 3,)") (refused (refusal 17 13))
    -- 18 at each sort of token, with `)` taken behind it; and 29
    ∷ reads 40 40 (bytes "GEOMETRYCOLLECTION(()") (refused (refusal 18 19))
    ∷ reads 40 40 (bytes "GEOMETRYCOLLECTION(,)") (refused (refusal 18 19))
    ∷ reads 40 40 (bytes "GEOMETRYCOLLECTION(1)") (refused (refusal 18 19))
    ∷ reads 40 40 (bytes "GEOMETRYCOLLECTION(\0)") (refused (refusal 18 19))
    ∷ reads 40 40 (bytes "GEOMETRYCOLLECTION(1x)") (refused (refusal 29 20))
    ∷ reads 40 40 (bytes "GEOMETRYCOLLECTION())") (refused (refusal 18 19))
    -- 28 and 29 in the place of each of these, where a bad number is taken: at the root, where `(`, a number, a child or `)` is asked for, behind a body that was refused, and
    -- by a bare point; 28 at the plus, with a blank before it too, and 29 where the number goes wrong or at its end; 10 only looks, and keeps the token's start
    ∷ reads 40 40 (bytes "+") (refused (refusal 28 0))
    ∷ reads 40 40 (bytes " + ") (refused (refusal 28 1))
    ∷ reads 40 40 (bytes "++(1 2)") (refused (refusal 29 2))
    ∷ reads 40 40 (bytes "+infi") (refused (refusal 29 5))
    ∷ reads 40 40 (bytes "POINT +") (refused (refusal 10 6))
    ∷ reads 40 40 (bytes "POINT -1.2.3") (refused (refusal 10 6))
    ∷ reads 40 40 (bytes "POINTZ  +") (refused (refusal 28 8))
    ∷ reads 40 40 (bytes "POINT ZM 1e+") (refused (refusal 29 12))
    ∷ reads 40 40 (bytes "POLYGON(+)") (refused (refusal 28 8))
    ∷ reads 40 40 (bytes "POINT(+)") (refused (refusal 28 6))
    ∷ reads 40 40 (bytes "POINT( + )") (refused (refusal 28 7))
    ∷ reads 40 40 (bytes "POINT(1 +)") (refused (refusal 28 8))
    ∷ reads 40 40 (bytes "POINT(1 --1)") (refused (refusal 29 9))
    ∷ reads 40 40 (bytes "POINTZ(1 2 +)") (refused (refusal 28 11))
    ∷ reads 40 40 (bytes "POINTM(1 2 -infx)") (refused (refusal 29 15))
    ∷ reads 40 40 (bytes "POINTZM(1 2 3 1.5ex)") (refused (refusal 29 18))
    ∷ reads 40 40 (bytes "POINT(1 2 +)") (refused (refusal 28 10))
    ∷ reads 40 40 (bytes "POINT(1 2 .e5)") (refused (refusal 29 11))
    ∷ reads 40 40 (bytes "POINT(x +)") (refused (refusal 28 8))
    ∷ reads 40 40 (bytes "POINT(x 4x)") (refused (refusal 29 9))
    ∷ reads 40 40 (bytes "POINT(4x +)") (refused (refusal 28 9))
    ∷ reads 40 40 (bytes "LINESTRING(1 2,3 +)") (refused (refusal 28 17))
    ∷ reads 40 40 (bytes "MULTIPOINT(+)") (refused (refusal 28 11))
    ∷ reads 40 40 (bytes "MULTIPOINT(1e)") (refused (refusal 29 13))
    ∷ reads 40 40 (bytes "GEOMETRYCOLLECTION(+)") (refused (refusal 28 19))
    ∷ reads 40 40 (bytes "GEOMETRYCOLLECTION(POINT +)") (refused (refusal 28 25))
    ∷ reads 40 40 (bytes "GEOMETRYCOLLECTION(POINT(1 2) 4" ++ kyo ++ bytes ")") (refused (refusal 29 31))
    -- 3 at `(` and at EMPTY of the root, of a child of each kind of parent, and at a bare point: with N rows the one more has none
    ∷ reads 0 40 (bytes "POINT(") (halt (refusal 3 5))
    ∷ reads 0 40 (bytes "POINT EMPTY") (halt (refusal 3 6))
    ∷ reads 0 40 (bytes "POLYGON Z(1") (halt (refusal 3 9))
    ∷ reads 1 40 (bytes "POLYGON((1 2))") (halt (refusal 3 8))
    ∷ reads 1 40 (bytes "POLYGON(EMPTY)") (halt (refusal 3 8))
    ∷ reads 2 40 (bytes "POLYGON((1 2),EMPTY)") (halt (refusal 3 14))
    ∷ reads 1 40 (bytes "MULTILINESTRING((1 2))") (halt (refusal 3 16))
    ∷ reads 1 40 (bytes "MULTILINESTRING(EMPTY)") (halt (refusal 3 16))
    ∷ reads 1 40 (bytes "MULTIPOLYGON(((1 2)))") (halt (refusal 3 13))
    ∷ reads 1 40 (bytes "MULTIPOLYGON(EMPTY)") (halt (refusal 3 13))
    ∷ reads 2 40 (bytes "MULTIPOLYGON(((1 2)))") (halt (refusal 3 14))
    ∷ reads 2 40 (bytes "MULTIPOLYGON((EMPTY))") (halt (refusal 3 14))
    ∷ reads 1 40 (bytes "MULTIPOINT((1 2))") (halt (refusal 3 11))
    ∷ reads 1 40 (bytes "MULTIPOINT(1 2)") (halt (refusal 3 11))
    ∷ reads 1 40 (bytes "MULTIPOINT(EMPTY)") (halt (refusal 3 11))
    ∷ reads 1 40 (bytes "MULTIPOINT(1x") (halt (refusal 3 11))
    ∷ reads 1 40 (bytes "MULTIPOINT(\0") (halt (refusal 3 11))
    ∷ reads 2 40 (bytes "MULTIPOINT(1 2, ,") (halt (refusal 3 16))
    ∷ reads 2 40 (bytes "MULTIPOINT(1 2,(3 4))") (halt (refusal 3 15))
    ∷ reads 1 40 (bytes "GEOMETRYCOLLECTION(POINT(1 2))") (halt (refusal 3 24))
    ∷ reads 1 40 (bytes "GEOMETRYCOLLECTION(POINT EMPTY)") (halt (refusal 3 25))
    ∷ reads 1 40 (bytes "GEOMETRYCOLLECTION(POINT Z EMPTY)") (halt (refusal 3 27))
    ∷ reads 1 40 (bytes "GEOMETRYCOLLECTION(GEOMETRYCOLLECTION(") (halt (refusal 3 37))
    ∷ reads 1 40 (bytes "GEOMETRYCOLLECTION(GEOMETRYCOLLECTION EMPTY)") (halt (refusal 3 38))
    ∷ reads 1 40 (bytes "GEOMETRYCOLLECTION(POINT x") (refused (refusal 13 25))
    -- 4 at X, Y, Z and M, at the number itself, its `+` if it has one; a bad number needs no row
    ∷ reads 40 0 (bytes "POINT(1 2)") (halt (refusal 4 6))
    ∷ reads 40 0 (bytes "POINT( +1 2)") (halt (refusal 4 7))
    ∷ reads 40 1 (bytes "POINT(1 2)") (halt (refusal 4 8))
    ∷ reads 40 2 (bytes "POINTZ(1 2 3)") (halt (refusal 4 11))
    ∷ reads 40 2 (bytes "POINTM(1 2 +3)") (halt (refusal 4 11))
    ∷ reads 40 2 (bytes "POINTZM(1 2 3 4)") (halt (refusal 4 12))
    ∷ reads 40 3 (bytes "POINTZM(1 2 3 4)") (halt (refusal 4 14))
    ∷ reads 40 2 (bytes "LINESTRING(1 2,3 4)") (halt (refusal 4 15))
    ∷ reads 40 0 (bytes "POINT(1x)") (refused (refusal 29 7))
    ∷ reads 40 0 (bytes "POINT(x)") (refused (refusal 14 6))
    -- 5 by the path and not by the total: 33 collections side by side in one are none too deep, nor is one that is EMPTY below 32; the 33rd `(` is, with no row for it too
    ∷ reads 40 9 (bytes "GEOMETRYCOLLECTION(" ++ repeated 33 (bytes "GEOMETRYCOLLECTION(POINT EMPTY),") ++ bytes "POINT EMPTY)")
    (halt (refusal 3 652))
    ∷ reads 80 9 (bytes "GEOMETRYCOLLECTION(" ++ repeated 33 (bytes "GEOMETRYCOLLECTION(POINT EMPTY),") ++ bytes "POINT EMPTY)")
    (nodes (node_over kind_geometry_collection dim_xy 34 (repeated 33 (nested 1 (leaf kind_point dim_xy 0)) ++ leaf kind_point dim_xy 0)) [])
    ∷ reads 80 9 (repeated 32 (bytes "GEOMETRYCOLLECTION(") ++ bytes "GEOMETRYCOLLECTION EMPTY" ++ repeated 32 (bytes ")"))
    (nodes (nested 32 (leaf kind_geometry_collection dim_xy 0)) [])
    ∷ reads 80 9 (repeated 32 (bytes "GEOMETRYCOLLECTION(") ++ bytes "GEOMETRYCOLLECTION (") (halt (refusal 5 627))
    ∷ reads 0 9 (bytes "GEOMETRYCOLLECTION(") (halt (refusal 3 18))
    -- 2 before all that is met: characters of four bytes; 65,536 and 65,537 bytes that are no UTF-8
    ∷ reads 0 0 (bytes "(" ++ earth) (refused (refusal 8 0))
    ∷ reads 40 9 earth (refused (refusal 7 0))
    ∷ reads 40 9 (bytes "POINT(1 2)" ++ earth) (nodes one_point (span 6 1 (bytes "1") ∷ span 8 1 (bytes "2") ∷ []))
    ∷ reads 40 9 (bytes "POINT(1 2)" ++ 0xF0 ∷ 0x9F ∷ 0x8C ∷ []) (refused (refusal 2 10))
    ∷ reads 0 0 (bytes "POINT(1x" ++ 0xFF ∷ []) (refused (refusal 2 8))
    ∷ reads 40 9 (replicate 65536 0xFF) (refused (refusal 2 0))
    ∷ reads 40 9 (replicate 65537 0xFF) (refused (refusal 2 0))
    ∷ []

-- all that a reading computes with
all : ℕ
unfolding all_bad begins after_one after_all is_nil same_word is_named is_digits is_exponent is_decimal is_unsigned is_lexeme every flat_map spellings lookup meaning ending close_in mark_tk number_token run_tk flush push lex_byte lex_run lex table fits first_fit char_width walk first_ill bind run and_then items closing number then_number if_asked coord point_body opened opening opener header child_head root_head line_body parens line_in line_of lines_body polygon_in polygon_of polygons_body point_in bare_point point_of points_body multi simple geometry_by child_of collection geometry root reading All
all = 0

pub every_refusal : All Holds refusals
unfolding all refusals
every_refusal =
    (refl, (refl, (refl, (refl, (refl, (refl, (refl, (refl, (refl, (refl, (refl, (refl, (refl, (refl, (refl, (refl, (refl, (refl, (refl, (refl, (refl, (refl, (refl, (refl, (refl, (refl, (refl, (refl, (refl, (refl, (refl, (refl, (refl, (refl, (refl, (refl, (refl, (refl, (refl, (refl, (refl, (refl, (refl, (refl, (refl, (refl, (refl, (refl, (refl, (refl, (refl, (refl, (refl, (refl, (refl, (refl, (refl, (refl, (refl, (refl, (refl, (refl, (refl, (refl, (refl, (refl, (refl, (refl, (refl, (refl, (refl, (refl, (refl, (refl, (refl, (refl, (refl, (refl, (refl, (refl, (refl, (refl, (refl, (refl, (refl, (refl, (refl, (refl, (refl, (refl, (refl, (refl, (refl, (refl, (refl, (refl, (refl, (refl, (refl, (refl, (refl, (refl, (refl, (refl, (refl, (refl, (refl, (refl, (refl, (refl, (refl, (refl, (refl, (refl, (refl, (refl, (refl, (refl, (refl, (refl, (refl, (refl, (refl, (refl, (refl, (refl, (refl, (refl, (refl, (refl, (refl, (refl, (refl, (refl, (refl, (refl, (refl, (refl, (refl, (refl, (refl, tt)))))))))))))))))))))))))))))))))))))))))))))))))))))))))))))))))))))))))))))))))))))))))))))))))))))))))))))))))))))))))))))))))))))))))))))

-- 1 at 4,194,304 of every longer text, whatever it holds and whatever the rooms: so before 2 and before all that is met
pub too_long : (N M : ℕ) (text : List ℕ) → over_limit (length text) ≡ true → reading N M text ≡ refused (refusal 1 4194304)
unfolding reading
too_long N M text over = rw over
