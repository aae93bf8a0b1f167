-- Worked examples of moves, by computation: both ways, each refusal with each thing that may be at fault, and which of two comes first.
use Rattle.std.specs.Prelude.{◌≡◌, refl, ℕ, length, take}
use mathlib.Core.List.{List, [], ◌∷◌, flat_map}
use Rattle.kinds.specs.Kinds.{width}
use Rattle.scan.specs.Front.{begins, after_one, after_all, is_nil}
use Rattle.words.specs.Words.{same_word}
use Rattle.lists.specs.Lists.{every}
use Rattle.number.specs.Lexeme.{is_named, is_digits, is_exponent, is_decimal, is_unsigned, is_lexeme}
use Rattle.store.specs.Rows.{row, span, cell, firsts, rows_in, spans_in, flat_rows, flat_spans, zeros, padded}
use Rattle.store.specs.Answers.{used_rows, used_spans}
use Rattle.tree.specs.Tree.{rows_with}
use Rattle.tree.specs.TreeIn.{on_front, as_a, times, find_text, find_row, exactly_one, at_most_one, find_parts, find_node, whole}
use Rattle.shape.specs.Numbers.{are_numbers}
use Rattle.shape.specs.Store.{are_whole, tree_of, well_formed}
use Rattle.fields.specs.Counts.{count_bytes, count_after}
use Rattle.fields.specs.Fields.{field, length_in, is_field, is_sized}
use Rattle.stored_form.specs.Form.{version1, version2, head_field, node_field, number_field, stored_rows, fits_rows, stored_of}
use Rattle.stored_form.specs.Reading.{is_other_version, head_in, fields_from, place_after, roomed, checked, reading_of}
use Rattle.stored_moves.specs.Moving.{Moving, moved, refused, moving_of, move_answer, store_left, bytes_left}

-- `POINT(1 2)` in version 1 and in version 2, 23 and 29 bytes
in_1 : List ℕ
in_1 = 1 ∷ 0 ∷ 5 ∷ 1 ∷ 0 ∷ 1 ∷ 0 ∷ 2 ∷ 2 ∷ 0 ∷ 4 ∷ 1 ∷ 0 ∷ 0 ∷ 1 ∷ 3 ∷ 0 ∷ 1 ∷ 49 ∷ 3 ∷ 0 ∷ 1 ∷ 50 ∷ []

in_2 : List ℕ
in_2 = 1 ∷ 0 ∷ 9 ∷ 2 ∷ 0 ∷ 0 ∷ 0 ∷ 1 ∷ 0 ∷ 0 ∷ 0 ∷ 2 ∷ 2 ∷ 0 ∷ 6 ∷ 1 ∷ 0 ∷ 0 ∷ 0 ∷ 0 ∷ 1 ∷ 3 ∷ 0 ∷ 1 ∷ 49 ∷ 3 ∷ 0 ∷ 1 ∷ 50 ∷ []

-- `GEOMETRYCOLLECTION Z(POINT Z EMPTY)`, and `LINESTRING(1 2,3 4,5 6)`, in both
nested_1 : List ℕ
nested_1 = 1 ∷ 0 ∷ 5 ∷ 1 ∷ 0 ∷ 2 ∷ 0 ∷ 0 ∷ 2 ∷ 0 ∷ 4 ∷ 7 ∷ 1 ∷ 0 ∷ 1 ∷ 2 ∷ 0 ∷ 4 ∷ 1 ∷ 1 ∷ 0 ∷ 0 ∷ []

nested_2 : List ℕ
nested_2 = 1 ∷ 0 ∷ 9 ∷ 2 ∷ 0 ∷ 0 ∷ 0 ∷ 2 ∷ 0 ∷ 0 ∷ 0 ∷ 0 ∷ 2 ∷ 0 ∷ 6 ∷ 7 ∷ 1 ∷ 0 ∷ 0 ∷ 0 ∷ 1 ∷ 2 ∷ 0 ∷ 6 ∷ 1 ∷ 1 ∷ 0 ∷ 0 ∷ 0 ∷ 0 ∷ []

six_numbers : List ℕ
six_numbers = 3 ∷ 0 ∷ 1 ∷ 49 ∷ 3 ∷ 0 ∷ 1 ∷ 50 ∷ 3 ∷ 0 ∷ 1 ∷ 51 ∷ 3 ∷ 0 ∷ 1 ∷ 52 ∷ 3 ∷ 0 ∷ 1 ∷ 53 ∷ 3 ∷ 0 ∷ 1 ∷ 54 ∷ []

line_1 : List ℕ
unfolding six_numbers
line_1 = 1 ∷ 0 ∷ 5 ∷ 1 ∷ 0 ∷ 1 ∷ 0 ∷ 6 ∷ 2 ∷ 0 ∷ 4 ∷ 2 ∷ 0 ∷ 0 ∷ 3 ∷ six_numbers

line_2 : List ℕ
unfolding six_numbers
line_2 = 1 ∷ 0 ∷ 9 ∷ 2 ∷ 0 ∷ 0 ∷ 0 ∷ 1 ∷ 0 ∷ 0 ∷ 0 ∷ 6 ∷ 2 ∷ 0 ∷ 6 ∷ 2 ∷ 0 ∷ 0 ∷ 0 ∷ 0 ∷ 3 ∷ six_numbers

-- with rows and room enough
up : List ℕ → Moving
up source = moving_of version1 version2 9 9 99 source

back : List ℕ → Moving
back source = moving_of version2 version1 9 9 99 source

-- from version 2 to a version with counts of one byte up to `largest`, and so many bytes in all, into so much room
into : ℕ → ℕ → ℕ → List ℕ → Moving
into largest limit room source = moving_of version2 (record { number = 9; width = 1; largest = largest; limit = limit }) 9 9 room source

-- from a version of at most 22 bytes to one that nothing fits, without room
unfit_too : List ℕ → Moving
unfit_too source = moving_of (record { number = 1; width = 2; largest = 65535; limit = 22 }) (record { number = 9; width = 1; largest = 0; limit = 0 }) 0 0 0 source

all : ℕ
unfolding in_1 in_2 nested_1 nested_2 six_numbers line_1 line_2 up back into unfit_too flat_map every count_bytes count_after field length_in is_field is_sized head_field node_field number_field stored_rows fits_rows stored_of begins after_one after_all is_nil same_word is_named is_digits is_exponent is_decimal is_unsigned is_lexeme cell firsts rows_in spans_in flat_rows flat_spans width rows_with on_front as_a times find_text find_row exactly_one at_most_one find_parts find_node whole are_numbers are_whole tree_of well_formed is_other_version head_in fields_from place_after roomed checked reading_of moving_of
all = 0

-- "a move from 1 to 2 and from 2 to 1": the spans are those of the source
both_ways : (up in_1 ≡ moved (row 1 0 1 ∷ []) (span 18 1 (49 ∷ []) ∷ span 22 1 (50 ∷ []) ∷ []) in_2)
    × (back in_2 ≡ moved (row 1 0 1 ∷ []) (span 24 1 (49 ∷ []) ∷ span 28 1 (50 ∷ []) ∷ []) in_1)
    × (up nested_1 ≡ moved (row 7 1 1 ∷ row 1 1 0 ∷ []) [] nested_2)
    × (back nested_2 ≡ moved (row 7 1 1 ∷ row 1 1 0 ∷ []) [] nested_1)
    × (bytes_left (up line_1) ≡ line_2) × (bytes_left (back line_2) ≡ line_1)
unfolding all
both_ways = (refl, refl, refl, refl, refl, refl)

-- "number, place, length, node count, number count": 6 bytes more for one node, 8 for two
answers : (move_answer (up in_1) ≡ record { number = 0; place = 0; length = 29; nodes = 1; numbers = 2 })
    × (move_answer (back in_2) ≡ record { number = 0; place = 0; length = 23; nodes = 1; numbers = 2 })
    × (move_answer (up nested_1) ≡ record { number = 0; place = 0; length = 30; nodes = 2; numbers = 0 })
    × (move_answer (refused 25 8) ≡ record { number = 25; place = 8; length = 0; nodes = 0; numbers = 0 })
unfolding all
answers = (refl, refl, refl, refl)

-- "left as the reader leaves it"; "all zero on any refusal": of the reading side, 27 and 23
left : (store_left (up in_1) ≡ reading_of version1 9 9 in_1) × (store_left (back in_2) ≡ reading_of version2 9 9 in_2)
    × (padded (used_rows (store_left (up (take 22 in_1)))) 6 ≡ zeros 6) × (padded (used_spans (store_left (up (take 22 in_1)))) 6 ≡ zeros 6) × (padded (bytes_left (up (take 22 in_1))) 6 ≡ zeros 6)
    × (padded (used_rows (store_left (into 1 99 99 in_2))) 6 ≡ zeros 6) × (padded (used_spans (store_left (into 1 99 99 in_2))) 6 ≡ zeros 6) × (padded (bytes_left (into 1 99 99 in_2)) 6 ≡ zeros 6)
    × (padded (used_rows (store_left (into 9 99 19 in_2))) 6 ≡ zeros 6) × (padded (used_spans (store_left (into 9 99 19 in_2))) 6 ≡ zeros 6) × (padded (bytes_left (into 9 99 19 in_2)) 6 ≡ zeros 6)
unfolding all
left = (refl, refl, refl, refl, refl, refl, refl, refl, refl, refl, refl)

-- "the reading side's first", with its place: 1, 26, 25 at each field and behind them, 22; and 3 and 4. What is lent has neither rows nor room, and nothing fits the version that is written
reading_first : (unfit_too in_1 ≡ refused 1 22) × (unfit_too (1 ∷ 0 ∷ 5 ∷ 2 ∷ []) ≡ refused 26 3) × (unfit_too [] ≡ refused 25 0) × (unfit_too (take 8 in_1) ≡ refused 25 8) × (unfit_too (take 15 in_1) ≡ refused 25 15) × (unfit_too (take 22 in_1) ≡ refused 25 19)
    × (unfit_too (1 ∷ 0 ∷ 5 ∷ 1 ∷ 0 ∷ 0 ∷ 0 ∷ 0 ∷ 0 ∷ []) ≡ refused 25 8) × (unfit_too (1 ∷ 0 ∷ 5 ∷ 1 ∷ 0 ∷ 0 ∷ 0 ∷ 0 ∷ []) ≡ refused 22 0) × (unfit_too (1 ∷ 0 ∷ 5 ∷ 1 ∷ 0 ∷ 1 ∷ 0 ∷ 0 ∷ 2 ∷ 0 ∷ 4 ∷ 7 ∷ 0 ∷ 0 ∷ 0 ∷ []) ≡ refused 3 8)
    × (moving_of version2 (record { number = 9; width = 1; largest = 0; limit = 0 }) 1 1 0 in_2 ≡ refused 4 25)
unfolding all
reading_first = (refl, refl, refl, refl, refl, refl, refl, refl, refl, refl)

-- each version's move knows its own source only
other_source : (up in_2 ≡ refused 26 3) × (back in_1 ≡ refused 26 3)
unfolding all
other_source = (refl, refl)

-- "then 27": the node count, the number count, parts with the counts, the whole (one node of 6 bytes and two numbers of 4 behind a head of 6); each just not; and a source over the limit that is written is no reason
does_not_fit_law : (into 1 99 99 nested_2 ≡ refused 27 0) × (into 1 99 99 in_2 ≡ refused 27 0) × (into 2 99 99 line_2 ≡ refused 27 0) × (into 2 19 99 in_2 ≡ refused 27 0)
    × (length (bytes_left (into 2 99 99 nested_2)) ≡ 18) × (length (bytes_left (into 6 99 99 line_2)) ≡ 36) × (length (bytes_left (into 2 20 99 in_2)) ≡ 20)
unfolding all
does_not_fit_law = (refl, refl, refl, refl, refl, refl, refl)

-- "then 23": one byte short and without room, but not where it just fits; 27 before it
no_room_law : (moving_of version1 version2 1 2 28 in_1 ≡ refused 23 0) × (moving_of version1 version2 1 2 0 in_1 ≡ refused 23 0) × (bytes_left (moving_of version1 version2 1 2 29 in_1) ≡ in_2)
    × (moving_of version2 version1 1 2 22 in_2 ≡ refused 23 0) × (bytes_left (moving_of version2 version1 1 2 23 in_2) ≡ in_1) × (into 1 99 0 in_2 ≡ refused 27 0) × (into 2 19 0 in_2 ≡ refused 27 0) × (into 2 20 0 in_2 ≡ refused 23 0)
unfolding all
no_room_law = (refl, refl, refl, refl, refl, refl, refl, refl)
