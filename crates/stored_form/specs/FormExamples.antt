-- Worked examples of what is written, by computation: stored bytes, each thing that may not fit, and the order of the refusals.
use Rattle.std.specs.Prelude.{◌≡◌, refl, true, false, ℕ, length, replicate}
use mathlib.Core.List.{List, [], ◌∷◌, flat_map}
use Rattle.scan.specs.Text as text
use Rattle.scan.specs.Front.{begins, after_one, after_all, is_nil}
use Rattle.words.specs.Words.{same_word}
use Rattle.lists.specs.Lists.{every}
use Rattle.kinds.specs.Kinds.{kind_point, kind_line_string, kind_polygon, kind_geometry_collection, dim_xy, dim_xyz, dim_xyzm, width}
use Rattle.number.specs.Lexeme.{is_named, is_digits, is_exponent, is_decimal, is_unsigned, is_lexeme}
use Rattle.refusals.specs.Refusals.{ill_formed_store, does_not_fit}
use Rattle.store.specs.Rows.{Row, node_row, node_over, cell, firsts, rows_in, spans_in, flat_rows}
use Rattle.store.specs.Answers.{bytes, refusal}
use Rattle.tree.specs.Tree.{rows_with}
use Rattle.tree.specs.TreeIn.{on_front, as_a, times, find_text, find_row, exactly_one, at_most_one, find_parts, find_node, whole}
use Rattle.shape.specs.Numbers.{are_numbers}
use Rattle.shape.specs.Store.{are_whole, tree_of}
use Rattle.fields.specs.Counts.{count_bytes}
use Rattle.fields.specs.Fields.{field}
use Rattle.stored_form.specs.declared.Version.{Version}
use Rattle.stored_form.specs.declared.Edition.TheVariants.{First, Second}
use Rattle.stored_form.specs.Form.{version1, version2, version_of, head_field, node_field, number_field, stored_rows, fits_rows, stored_of}

abbrev one : List ℕ
one = text.bytes "1"

abbrev two : List ℕ
two = text.bytes "2"

abbrev three : List ℕ
three = text.bytes "-3"

-- the rows of `POINT(1 2)`, `GEOMETRYCOLLECTION EMPTY` and `POLYGON Z((1 2 -3))`
abbrev point : List Row
point = node_over kind_point dim_xy 1 []

abbrev empty_collection : List Row
empty_collection = node_over kind_geometry_collection dim_xy 0 []

abbrev polygon : List Row
polygon = node_over kind_polygon dim_xyz 1 (node_over kind_line_string dim_xyz 1 [])

-- a version with counts of one byte up to `largest`, and so many bytes in all
abbrev small : ℕ → ℕ → Version
small largest limit = record { number = 9; width = 1; largest = largest; limit = limit }

all : ℕ
unfolding flat_map every count_bytes field head_field node_field number_field stored_rows fits_rows stored_of begins after_one after_all is_nil same_word is_named is_digits is_exponent is_decimal is_unsigned is_lexeme cell firsts rows_in spans_in flat_rows width rows_with on_front as_a times find_text find_row exactly_one at_most_one find_parts find_node whole are_numbers are_whole tree_of
all = 0

-- "version 1"; "two bytes each", so counts up to 65,535; "over 1,048,576 bytes"
version_1 : (version1.number ≡ 1) × (version1.width ≡ 2) × (version1.largest ≡ 65535) × (version1.limit ≡ 1048576)
version_1 = (refl, refl, refl, refl)

-- "stored version 2 has four-byte counts and parts", so counts up to 4,294,967,295, "with a whole limit of 67,108,864 bytes"
version_2 : (version2.number ≡ 2) × (version2.width ≡ 4) × (version2.largest ≡ 4294967295) × (version2.limit ≡ 67108864)
version_2 = (refl, refl, refl, refl)

editions : (version_of First ≡ version1) × (version_of Second ≡ version2)
editions = (refl, refl)

-- a head, then a node, then its numbers
a_point : stored_rows version1 point (one ∷ two ∷ []) ≡ 1 ∷ 0 ∷ 5 ∷ 1 ∷ 0 ∷ 1 ∷ 0 ∷ 2 ∷ 2 ∷ 0 ∷ 4 ∷ 1 ∷ 0 ∷ 0 ∷ 1 ∷ 3 ∷ 0 ∷ 1 ∷ 49 ∷ 3 ∷ 0 ∷ 1 ∷ 50 ∷ []
unfolding all
a_point = refl

an_empty_collection : stored_rows version1 empty_collection [] ≡ 1 ∷ 0 ∷ 5 ∷ 1 ∷ 0 ∷ 1 ∷ 0 ∷ 0 ∷ 2 ∷ 0 ∷ 4 ∷ 7 ∷ 0 ∷ 0 ∷ 0 ∷ []
unfolding all
an_empty_collection = refl

-- the same of version 2: its counts and parts have four bytes, its lengths two
a_point_of_2 : stored_rows version2 point (one ∷ two ∷ []) ≡ 1 ∷ 0 ∷ 9 ∷ 2 ∷ 0 ∷ 0 ∷ 0 ∷ 1 ∷ 0 ∷ 0 ∷ 0 ∷ 2 ∷ 2 ∷ 0 ∷ 6 ∷ 1 ∷ 0 ∷ 0 ∷ 0 ∷ 0 ∷ 1 ∷ 3 ∷ 0 ∷ 1 ∷ 49 ∷ 3 ∷ 0 ∷ 1 ∷ 50 ∷ []
unfolding all
a_point_of_2 = refl

an_empty_collection_of_2 : stored_rows version2 empty_collection [] ≡ 1 ∷ 0 ∷ 9 ∷ 2 ∷ 0 ∷ 0 ∷ 0 ∷ 1 ∷ 0 ∷ 0 ∷ 0 ∷ 0 ∷ 2 ∷ 0 ∷ 6 ∷ 7 ∷ 0 ∷ 0 ∷ 0 ∷ 0 ∷ 0 ∷ []
unfolding all
an_empty_collection_of_2 = refl

a_polygon : stored_rows version1 polygon (one ∷ two ∷ three ∷ []) ≡ 1 ∷ 0 ∷ 5 ∷ 1 ∷ 0 ∷ 2 ∷ 0 ∷ 3 ∷ 2 ∷ 0 ∷ 4 ∷ 3 ∷ 1 ∷ 0 ∷ 1 ∷ 2 ∷ 0 ∷ 4 ∷ 2 ∷ 1 ∷ 0 ∷ 1 ∷ 3 ∷ 0 ∷ 1 ∷ 49 ∷ 3 ∷ 0 ∷ 1 ∷ 50 ∷ 3 ∷ 0 ∷ 2 ∷ 45 ∷ 51 ∷ []
unfolding all
a_polygon = refl

-- parts and counts are big-endian: 258 parts are 1, 2
wide_parts : node_field 2 (node_row kind_geometry_collection dim_xyzm 258 []) ≡ 2 ∷ 0 ∷ 4 ∷ 7 ∷ 3 ∷ 1 ∷ 2 ∷ []
unfolding all
wide_parts = refl

-- and so are those of four bytes: 65,536 parts, which no two bytes say, are 0, 1, 0, 0; 16,909,060 are 1, 2, 3, 4; and counts as well
wider_parts : (node_field 4 (node_row kind_geometry_collection dim_xyzm 65536 []) ≡ 2 ∷ 0 ∷ 6 ∷ 7 ∷ 3 ∷ 0 ∷ 1 ∷ 0 ∷ 0 ∷ []) × (node_field 4 (node_row kind_line_string dim_xy 16909060 []) ≡ 2 ∷ 0 ∷ 6 ∷ 2 ∷ 0 ∷ 1 ∷ 2 ∷ 3 ∷ 4 ∷ []) × (head_field version2 65536 16909060 ≡ 1 ∷ 0 ∷ 9 ∷ 2 ∷ 0 ∷ 1 ∷ 0 ∷ 0 ∷ 1 ∷ 2 ∷ 3 ∷ 4 ∷ [])
unfolding all
wider_parts = (refl, refl, refl)

-- ---- "27 where a count, a text or the whole doesn't fit the form": each by itself, and just not
-- two nodes and three numbers: the node count, the number count
counts : (fits_rows (small 3 100) polygon (one ∷ two ∷ three ∷ []) ≡ true) × (fits_rows (small 1 100) polygon [] ≡ false) × (fits_rows (small 2 100) polygon (one ∷ two ∷ three ∷ []) ≡ false)
unfolding all
counts = (refl, refl, refl)

-- three parts
parts : (fits_rows (small 3 100) (node_over kind_line_string dim_xy 3 []) [] ≡ true) × (fits_rows (small 2 100) (node_over kind_line_string dim_xy 3 []) [] ≡ false)
unfolding all
parts = (refl, refl)

-- a text of 65,535 bytes and one of 65,536
texts : (fits_rows (small 1 70000) [] (replicate 65535 49 ∷ []) ≡ true) × (fits_rows (small 1 70000) [] (replicate 65536 49 ∷ []) ≡ false)
unfolding all
texts = (refl, refl)

-- "a number text over 65,535 bytes fits neither version": of 65,536 bytes the low 16 bits would say 0, of 65,537 they would say 1
texts_in_both : (fits_rows version1 point (one ∷ replicate 65535 49 ∷ []) ≡ true) × (fits_rows version1 point (one ∷ replicate 65536 49 ∷ []) ≡ false) × (fits_rows version1 point (one ∷ replicate 65537 49 ∷ []) ≡ false)
    × (fits_rows version2 point (one ∷ replicate 65535 49 ∷ []) ≡ true) × (fits_rows version2 point (one ∷ replicate 65536 49 ∷ []) ≡ false) × (fits_rows version2 point (one ∷ replicate 65537 49 ∷ []) ≡ false)
unfolding all
texts_in_both = (refl, refl, refl, refl, refl, refl)

-- parts that version 1 can't count fit version 2, up to the last that four bytes say
parts_in_both : (fits_rows version1 (node_over kind_line_string dim_xy 65535 []) [] ≡ true) × (fits_rows version1 (node_over kind_line_string dim_xy 65536 []) [] ≡ false) × (fits_rows version2 (node_over kind_line_string dim_xy 65536 []) [] ≡ true) × (fits_rows version2 (node_over kind_line_string dim_xy 4294967295 []) [] ≡ true) × (fits_rows version2 (node_over kind_line_string dim_xy 4294967296 []) [] ≡ false)
unfolding all
parts_in_both = (refl, refl, refl, refl, refl)

-- the whole: 20 bytes
in_all : (length (stored_rows (small 2 0) point (one ∷ two ∷ [])) ≡ 20) × (fits_rows (small 2 20) point (one ∷ two ∷ []) ≡ true) × (fits_rows (small 2 19) point (one ∷ two ∷ []) ≡ false)
unfolding all
in_all = (refl, refl, refl)

-- ---- "22, then 27": `1 2` with spans of both numbers, and with one number too few
order : (stored_of (small 2 20) (text.bytes "1 2") (flat_rows point) (0 ∷ 1 ∷ 2 ∷ 1 ∷ []) ≡ bytes (stored_rows (small 2 20) point (one ∷ two ∷ [])))
    × (stored_of (small 2 19) (text.bytes "1 2") (flat_rows point) (0 ∷ 1 ∷ 2 ∷ 1 ∷ []) ≡ refusal does_not_fit)
    × (stored_of (small 2 1) (text.bytes "1 2") (flat_rows point) (0 ∷ 1 ∷ []) ≡ refusal ill_formed_store)
unfolding all
order = (refl, refl, refl)
