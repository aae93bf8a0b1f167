-- The premises of request 2026-01's theorems are met, by computation: calls of both entries for `POINT(1 2)` that are not refused, from two texts; and refusals of both.
use Rattle.std.specs.Prelude.{refl, ℕ, replicate}
use mathlib.Core.List.{List, [], ◌∷◌, ◌++◌, flat_map}
use Rattle.lists.specs.Lists.{every}
use Rattle.scan.specs.Text as text
use Rattle.scan.specs.Front.{begins, after_one, after_all, is_nil}
use Rattle.words.specs.Words.{same_word}
use Rattle.kinds.specs.Kinds.{width}
use Rattle.number.specs.Lexeme.{is_named, is_digits, is_exponent, is_decimal, is_unsigned, is_lexeme}
use Rattle.store.specs.Rows.{cell, firsts, rows_in, spans_in, flat_rows, flat_spans}
use Rattle.store.specs.Answers.{wrote, not_written}
use Rattle.tree.specs.Tree.{rows_with}
use Rattle.tree.specs.TreeIn.{on_front, as_a, times, find_text, find_row, exactly_one, at_most_one, find_parts, find_node, whole}
use Rattle.shape.specs.Numbers.{are_numbers}
use Rattle.shape.specs.Store.{are_whole, tree_of, well_formed}
use Rattle.fields.specs.Counts.{count_after, count_bytes}
use Rattle.fields.specs.Fields.{field, length_in, is_field, is_sized}
use Rattle.stored_form.specs.Form.{version1, version2, head_field, node_field, number_field, stored_rows, fits_rows, stored_of}
use Rattle.stored_form.specs.Reading.{is_other_version, head_in, fields_from, place_after, roomed, checked, reading_of}
use Rattle.demands.specs.Stored.{StoredWrite, StoredRead}

all : ℕ
unfolding flat_map every begins after_one after_all is_nil same_word is_named is_digits is_exponent is_decimal is_unsigned is_lexeme width cell firsts rows_in spans_in flat_rows flat_spans rows_with on_front as_a times find_text find_row exactly_one at_most_one find_parts find_node whole are_numbers are_whole tree_of well_formed count_after count_bytes field length_in is_field is_sized head_field node_field number_field stored_rows fits_rows stored_of is_other_version head_in fields_from place_after roomed checked reading_of
all = 0

-- its stored bytes, and its node row
point : List ℕ
point = 1 ∷ 0 ∷ 5 ∷ 1 ∷ 0 ∷ 1 ∷ 0 ∷ 2 ∷ 2 ∷ 0 ∷ 4 ∷ 1 ∷ 0 ∷ 0 ∷ 1 ∷ 3 ∷ 0 ∷ 1 ∷ 49 ∷ 3 ∷ 0 ∷ 1 ∷ 50 ∷ []

-- written from two texts, with a byte of room to spare
written : StoredWrite version1 (text.bytes "POINT(1 2)") (1 ∷ 0 ∷ 1 ∷ []) (6 ∷ 1 ∷ 8 ∷ 1 ∷ []) 24 (wrote 23) (point ++ (0 ∷ []))
    × StoredWrite version1 (text.bytes "2 1") (1 ∷ 0 ∷ 1 ∷ []) (2 ∷ 1 ∷ 0 ∷ 1 ∷ []) 23 (wrote 23) point
unfolding all point
written = (record { answer = refl; bytes = refl }, record { answer = refl; bytes = refl })

-- read with a place to spare in both slices
read_back : StoredRead version1 point (replicate 4 7) (replicate 5 7) (record { number = 0; place = 0; nodes = 1; numbers = 2 }) (1 ∷ 0 ∷ 1 ∷ 0 ∷ []) (18 ∷ 1 ∷ 22 ∷ 1 ∷ 0 ∷ [])
unfolding all point
read_back = record { answer = refl; nodes = refl; numbers = refl }

-- 22 and 23 of the writer; 3 of the reader, which leaves zeros
refusals : StoredWrite version1 (text.bytes "1") (1 ∷ 0 ∷ 1 ∷ []) (0 ∷ 1 ∷ []) 2 (not_written 22) (0 ∷ 0 ∷ [])
    × StoredWrite version1 (text.bytes "1 2") (1 ∷ 0 ∷ 1 ∷ []) (0 ∷ 1 ∷ 2 ∷ 1 ∷ []) 2 (not_written 23) (0 ∷ 0 ∷ [])
    × StoredRead version1 point (7 ∷ 7 ∷ []) (replicate 4 7) (record { number = 3; place = 8; nodes = 0; numbers = 0 }) (0 ∷ 0 ∷ []) (replicate 4 0)
unfolding all point
refusals = (record { answer = refl; bytes = refl }, record { answer = refl; bytes = refl }, record { answer = refl; nodes = refl; numbers = refl })

-- the same of version 2
point_2 : List ℕ
point_2 = 1 ∷ 0 ∷ 9 ∷ 2 ∷ 0 ∷ 0 ∷ 0 ∷ 1 ∷ 0 ∷ 0 ∷ 0 ∷ 2 ∷ 2 ∷ 0 ∷ 6 ∷ 1 ∷ 0 ∷ 0 ∷ 0 ∷ 0 ∷ 1 ∷ 3 ∷ 0 ∷ 1 ∷ 49 ∷ 3 ∷ 0 ∷ 1 ∷ 50 ∷ []

version_2 : StoredWrite version2 (text.bytes "POINT(1 2)") (1 ∷ 0 ∷ 1 ∷ []) (6 ∷ 1 ∷ 8 ∷ 1 ∷ []) 30 (wrote 29) (point_2 ++ (0 ∷ []))
    × StoredRead version2 point_2 (replicate 4 7) (replicate 5 7) (record { number = 0; place = 0; nodes = 1; numbers = 2 }) (1 ∷ 0 ∷ 1 ∷ 0 ∷ []) (24 ∷ 1 ∷ 28 ∷ 1 ∷ 0 ∷ [])
    × StoredWrite version2 (text.bytes "1 2") (1 ∷ 0 ∷ 1 ∷ []) (0 ∷ 1 ∷ 2 ∷ 1 ∷ []) 2 (not_written 23) (0 ∷ 0 ∷ [])
unfolding all point_2
version_2 = (record { answer = refl; bytes = refl }, record { answer = refl; nodes = refl; numbers = refl }, record { answer = refl; bytes = refl })

-- and each is lent the other's bytes
other_version : StoredRead version1 point_2 (7 ∷ 7 ∷ []) (7 ∷ []) (record { number = 26; place = 3; nodes = 0; numbers = 0 }) (0 ∷ 0 ∷ []) (0 ∷ []) × StoredRead version2 point (7 ∷ 7 ∷ []) (7 ∷ []) (record { number = 26; place = 3; nodes = 0; numbers = 0 }) (0 ∷ 0 ∷ []) (0 ∷ [])
unfolding all point point_2
other_version = (record { answer = refl; nodes = refl; numbers = refl }, record { answer = refl; nodes = refl; numbers = refl })

-- a number's text of 65,536 bytes: 27 in both versions
too_wide : StoredWrite version1 (replicate 65536 49 ++ (32 ∷ 50 ∷ [])) (1 ∷ 0 ∷ 1 ∷ []) (0 ∷ 65536 ∷ 65537 ∷ 1 ∷ []) 2 (not_written 27) (0 ∷ 0 ∷ [])
    × StoredWrite version2 (replicate 65536 49 ++ (32 ∷ 50 ∷ [])) (1 ∷ 0 ∷ 1 ∷ []) (0 ∷ 65536 ∷ 65537 ∷ 1 ∷ []) 2 (not_written 27) (0 ∷ 0 ∷ [])
unfolding all
too_wide = (record { answer = refl; bytes = refl }, record { answer = refl; bytes = refl })
